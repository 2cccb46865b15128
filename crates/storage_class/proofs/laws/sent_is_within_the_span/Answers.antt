use Rattle.storage_class.proofs.Sent.{sent_within}
use Rattle.storage_class.proofs.laws.sent_is_within_the_span.Goals as goal

pub returns : goal.returns
returns c = sent_within
