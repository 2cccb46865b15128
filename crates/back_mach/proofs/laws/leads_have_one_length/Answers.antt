use Rattle.back_mach.proofs.Sent.{one_length}
use Rattle.back_mach.proofs.laws.leads_have_one_length.Goals as goal

pub returns : goal.returns
returns c = one_length
