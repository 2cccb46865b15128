-- Operations without a body send nothing after their heads.
use Rattle.std.proofs.Common.{◌≡◌, ℕ, [], false, not}
use Rattle.mint.specs.Types.{Ty}
use Rattle.mint.specs.Values.{Val}
use Rattle.wire_def.specs.declared.encoding.Encoding.{Encoding}
use Rattle.wire_def.specs.Hollow.{is_hollow}
use Rattle.wire_def.specs.Send.{send}
use Rattle.wire_def.proofs.Hollow.{empty}
use Rattle.std.proofs.lemmas.Bool.{not-false}

-- nothing is sent of a type of which it is not so that it has octets
pub nothing_sent : (e : Encoding) (t : Ty) → not (is_hollow t) ≡ false → (p : ℕ) (v : Val) → send e t p v ≡ []
nothing_sent e t h p v = empty e t (not-false (is_hollow t) h) p v
