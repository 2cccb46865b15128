-- What the codes of a table that receive are to be.
use Rattle.std.specs.Prelude.{◌≡◌, ℕ, ◌<◌, List, [], length, Some, slice_get}
use Rattle.mint.specs.declared.node.Node.{Node}
use Rattle.mint.specs.Types.{type_at}
use Rattle.wire_def.specs.declared.encoding.Encoding.{Encoding}
use Rattle.cast_stub.specs.declared.recv.RecvOp.{RecvOp}
use Rattle.cast_stub.specs.RecvBlock.{finish, call, code_seen}
use Rattle.cast_stub.specs.Got.{IsSoundCode}
use Rattle.wire_def.specs.Places.{IsPlace}

-- each code gives the value of its node that the octets spell, wherever it begins, or stops where they spell none
abbrev pub CodesReceive : Encoding → List Node → List (List RecvOp) → Type 0
CodesReceive e nodes subs = (k : ℕ) (ops : List RecvOp) → slice_get subs k ≡ Some ops
    → IsSoundCode e (type_at nodes k) (IsPlace e) (record { ops = ops; subs = subs })

-- the code that only calls the code of a node is sound for it too
abbrev pub CallsReceive : Encoding → List Node → List (List RecvOp) → Type 0
CallsReceive e nodes subs = (k : ℕ) (ops : List RecvOp) → k < length nodes → code_seen ops ≡ call k [] finish
    → IsSoundCode e (type_at nodes k) (IsPlace e) (record { ops = ops; subs = subs })
