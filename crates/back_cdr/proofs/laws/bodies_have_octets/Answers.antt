use Rattle.back_cdr.proofs.Following.{octets_follow}
use Rattle.back_cdr.proofs.laws.bodies_have_octets.Goals as goal

pub returns : goal.returns
returns c = octets_follow
