-- Two codes of one flat.
use Rattle.std.specs.Prelude.{◌≡◌, ℕ, List, Some}
use Rattle.mint.specs.declared.node.Node.{Node}
use Rattle.cast_stub.specs.declared.send.SendCode.{SendCode}
use Rattle.stub_flat.specs.Flat.{Flats, flat}

-- a code has a flat, and the kept one has the same
abbrev pub HaveOneFlat : List Node → ℕ → SendCode → SendCode → Type 0
HaveOneFlat nodes id kept code = (f : Flats) × (flat nodes id code ≡ Some f) × (flat nodes id kept ≡ Some f)
