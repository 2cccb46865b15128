use Rattle.back_mach.proofs.Sent.{replies_read}
use Rattle.back_mach.proofs.laws.replies_are_read.Goals as goal

pub returns : goal.returns
returns c = replies_read
