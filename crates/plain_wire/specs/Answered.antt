-- What reading a message answers.
use Rattle.std.specs.Prelude.{◌≡◌, ℕ}
use Rattle.mint.specs.Values.{Val, seen}
use Rattle.wire_def.specs.declared.fault.FaultKind.{FaultKind}
pub use Rattle.wire_def.specs.Laws.{BeginsWith as FirstSpell}
use Rattle.plain_wire.specs.declared.read.Read.{Read}
use Rattle.plain_wire.specs.declared.read.Read.TheVariants.{Value, Stop}

-- this value, in so many octets
abbrev pub IsValue : Read → Val → ℕ → Type 0
IsValue (Value w n) v used = (seen w ≡ v) × (n ≡ used)
IsValue (Stop f) v used = ⊥

-- a fault of this kind at this place
abbrev pub IsStop : Read → FaultKind → ℕ → Type 0
IsStop (Value w n) k at = ⊥
IsStop (Stop f) k at = (f.kind ≡ k) × (f.at ≡ at)
