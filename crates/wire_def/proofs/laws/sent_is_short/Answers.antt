use Rattle.wire_def.proofs.Short.{sent_most}
use Rattle.wire_def.proofs.laws.sent_is_short.Goals as goal

pub returns : goal.returns
returns c = sent_most
