-- What holds of the heads of calls, whatever the back end.
use Rattle.std.specs.Prelude.{◌≡◌, ◌⊎◌, ◌<◌, ◌≤◌, ℕ, ◌+◌, List, [], ◌∷◌, length, Bool, if◌then◌else◌, Option, Some, None}
use Rattle.std.specs.List.{position_from}
use Rattle.wire_def.specs.declared.fault.HeadErr.{HeadErr}
use Rattle.head_kit.specs.declared.call_head.CallHead.{CallHead}
use Rattle.head_kit.specs.declared.call_head.CallTarget.{CallTarget}
use Rattle.head_kit.specs.declared.call_head.CallTarget.TheVariants.{Operation, NoInterface, NoOperation}

-- what is named by an operation's place, where there is one
abbrev pub operation_at : Option ℕ → CallTarget
operation_at None = NoOperation
operation_at (Some op) = Operation op

-- the first interface that is called, and the first of its operations that has what is asked for, where the operations of
-- the interfaces are counted from k
abbrev pub named_from : {I O : Type 0} → (I → List O) → (I → Bool) → (I → O → Bool) → ℕ → List I → CallTarget
named_from ops called has k [] = NoInterface
named_from ops called has k (i ∷ is) = if called i then operation_at (position_from (has i) k (ops i))
    else named_from ops called has (k + length (ops i)) is

-- a call that names one of the operations below n, or none
abbrev pub IsBelow : ℕ → CallTarget → Type 0
IsBelow n (Operation op) = op < n
IsBelow n _ = Unit {0}

-- a message with at most one head, which lies within it, or one first fault of its head, and not both
pub record IsOneHead (o : List ℕ) (Begins : CallHead → Type 0) (Stops : HeadErr → Type 0) : Type 0 where
  pub within : (c : CallHead) → Begins c → c.used ≤ length o
  pub not_both : (c : CallHead) (e : HeadErr) → Begins c → Stops e → ⊥
  pub one_head : (c d : CallHead) → Begins c → Begins d → c ≡ d
  pub one_fault : (d e : HeadErr) → Stops d → Stops e → d ≡ e

-- a message with a head, or with a first fault of its head
abbrev pub HasHead : (CallHead → Type 0) → (HeadErr → Type 0) → Type 0
HasHead Begins Stops = ((c : CallHead) × Begins c) ⊎ ((e : HeadErr) × Stops e)
