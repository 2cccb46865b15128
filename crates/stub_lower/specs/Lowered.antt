-- What the codes of a table are to be.
use Rattle.std.specs.Prelude.{◌≡◌, ℕ, List, Some, slice_get}
use Rattle.mint.specs.declared.node.Node.{Node}
use Rattle.mint.specs.Types.{type_at}
use Rattle.mint.specs.Typed.{IsWellTyped}
use Rattle.mint.specs.Values.{Val}
use Rattle.wire_def.specs.declared.encoding.Encoding.{Encoding}
use Rattle.wire_def.specs.declared.head.Head.{Head}
use Rattle.wire_def.specs.Places.{IsPlace}
use Rattle.wire_def.specs.Send.{send}
use Rattle.cast_stub.specs.declared.send.SendOp.{SendOp}
use Rattle.cast_stub.specs.Meaning.{meaning}

-- each code appends what is sent of its node, for every head and value, wherever it begins
abbrev pub CodesSend : Encoding → List Node → List (List SendOp) → Type 0
CodesSend e nodes subs = (k : ℕ) (ops : List SendOp) → slice_get subs k ≡ Some ops
    → (h : Head) (v : Val) (p : ℕ) → IsPlace e p → IsWellTyped (type_at nodes k) v
    → meaning (record { ops = ops; subs = subs }) h v p ≡ Some (send e (type_at nodes k) p v)
