use Rattle.back_mach.proofs.Sent.{requests_begin}
use Rattle.back_mach.proofs.laws.requests_are_read.Goals as goal

pub returns : goal.returns
returns c = requests_begin
