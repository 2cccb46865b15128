use Rattle.giop_head.proofs.Lawful.{heads_are_read}
use Rattle.giop_head.proofs.laws.heads_are_read.Goals as goal

pub returns : goal.returns
returns c = heads_are_read
