use Rattle.giop_head.proofs.Sent.{requests_read}
use Rattle.giop_head.proofs.laws.requests_are_read.Goals as goal

pub returns : goal.returns
returns c = requests_read
