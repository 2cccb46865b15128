use Rattle.back_mach.proofs.Sent.{own_octets}
use Rattle.back_mach.proofs.laws.own_refusals_have_octets.Goals as goal

pub returns : goal.returns
returns c = own_octets
