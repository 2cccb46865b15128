-- Replies that are kept for the operations of a binding.
use Rattle.std.specs.Prelude.{◌≡◌, ℕ, List, length, slice_index_or, Option, None, Some}
use Rattle.mint.specs.declared.value.Value.{Value}
use Rattle.mint.specs.Blank.{blank}
use Rattle.mint.specs.Typed.{IsWellTyped}
use Rattle.mint.specs.Types.{Ty}
use Rattle.mint.specs.Values.{Val, seen}
use Rattle.pres.specs.Bindings.{Binding}
use Rattle.skeleton.specs.Exchanges.{reply_type}

-- a table of replies: a place for each operation
abbrev pub Places : Type 0
Places = List (Option Value)

-- the reply in the place of an operation
abbrev pub kept_in : Places → ℕ → Option Value
kept_in places op = slice_index_or places op None

-- a binding, and for each of its operations a place for a reply
pub record TableSkeleton : Type 0 where
  pub binding : Binding
  pub replies : Places

-- the reply that is kept for an operation
abbrev pub reply_at : TableSkeleton → ℕ → Option Value
reply_at k op = kept_in k.replies op

-- a reply, or else the blank value of a type
abbrev pub reply_or_blank : Ty → Option Value → Val
reply_or_blank t None = blank t
reply_or_blank t (Some v) = seen v

-- the reply to an operation: the one that is kept for it, or else the blank one
abbrev pub answer_at : TableSkeleton → ℕ → Val
answer_at k op = reply_or_blank (reply_type k.binding op) (reply_at k op)

-- a table with a place for each operation, in which each reply is a well-typed one of its operation
pub record IsKept (k : TableSkeleton) : Type 0 where
  pub places : length k.replies ≡ length k.binding.ops
  pub typed : (op : ℕ) (v : Value) → reply_at k op ≡ Some v → IsWellTyped (reply_type k.binding op) (seen v)
