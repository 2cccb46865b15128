-- What covering promises.
use Rattle.std.specs.Prelude.{◌≡◌, ℕ, true, List}
use Rattle.mint.specs.declared.node.Node.{Node}
use Rattle.mint.specs.Types.{IsTable, type_at}
use Rattle.mint.specs.Typed.{IsWellTyped}
use Rattle.mint.specs.Values.{Val}
use Rattle.wire_def.specs.declared.head.Head.{Head}
use Rattle.cast_stub.specs.declared.send.SendCode.{SendCode}
use Rattle.cast_stub.specs.Parts.{IsThere}
use Rattle.cast_stub.specs.Puts.{IsHead}
use Rattle.cast_stub.specs.Meaning.{meaning, IsCovered}
use Rattle.stub_cover.specs.Covers.{covers}

-- a code has a meaning from position 0, for every head and value of the node's type
abbrev pub IsMeant : List Node → ℕ → SendCode → Type 0
IsMeant nodes id code = (h : Head) (v : Val) → IsHead h → IsWellTyped (type_at nodes id) v → IsThere (meaning code h v 0)

-- a code that has a meaning and passes has ensured what it appends
abbrev pub CoversIsCovered : Type 0
CoversIsCovered = (nodes : List Node) (id : ℕ) (code : SendCode) → IsTable nodes → IsMeant nodes id code → covers nodes id code ≡ true
    → IsCovered (type_at nodes id) 0 code
