use Rattle.wire_def.proofs.Encodings.{one}
use Rattle.wire_def.proofs.laws.octets_spell_one_value.Goals as goal

pub returns : goal.returns
returns c = one
