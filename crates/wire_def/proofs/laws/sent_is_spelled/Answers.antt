use Rattle.wire_def.proofs.Encodings.{sent_spells}
use Rattle.wire_def.proofs.laws.sent_is_spelled.Goals as goal

pub returns : goal.returns
returns c = sent_spells
