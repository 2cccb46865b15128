-- What equal flats promise.
use Rattle.std.specs.Prelude.{◌≡◌, ℕ, List, Some}
use Rattle.mint.specs.declared.node.Node.{Node}
use Rattle.mint.specs.Types.{IsTable, type_at}
use Rattle.mint.specs.Typed.{IsWellTyped}
use Rattle.mint.specs.Values.{Val}
use Rattle.wire_def.specs.declared.head.Head.{Head}
use Rattle.cast_stub.specs.declared.send.SendCode.{SendCode}
use Rattle.cast_stub.specs.Puts.{IsHead}
use Rattle.cast_stub.specs.Meaning.{meaning}
use Rattle.stub_flat.specs.Flat.{Flats, flat}

-- codes of one flat append the same octets from position 0, for every head and value of the node's type
abbrev pub OneFlatOneMeaning : Type 0
OneFlatOneMeaning = (nodes : List Node) (id : ℕ) (a b : SendCode) (f : Flats) (h : Head) (v : Val) → IsTable nodes → IsHead h
    → IsWellTyped (type_at nodes id) v → flat nodes id a ≡ Some f → flat nodes id b ≡ Some f → meaning a h v 0 ≡ meaning b h v 0
