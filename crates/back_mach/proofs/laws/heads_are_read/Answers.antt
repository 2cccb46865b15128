use Rattle.back_mach.proofs.Lawful.{heads_are_read}
use Rattle.back_mach.proofs.laws.heads_are_read.Goals as goal

pub returns : goal.returns
returns c = heads_are_read
