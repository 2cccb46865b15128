use Rattle.giop_head.proofs.Sent.{replies_read}
use Rattle.giop_head.proofs.laws.replies_are_read.Goals as goal

pub returns : goal.returns
returns c = replies_read
