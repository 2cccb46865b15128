use Rattle.back_mach.proofs.Sent.{refusals_read}
use Rattle.back_mach.proofs.laws.refusals_are_read.Goals as goal

pub returns : goal.returns
returns c = refusals_read
