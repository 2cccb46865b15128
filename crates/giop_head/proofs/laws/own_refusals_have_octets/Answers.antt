use Rattle.giop_head.proofs.Sent.{own_octets}
use Rattle.giop_head.proofs.laws.own_refusals_have_octets.Goals as goal

pub returns : goal.returns
returns c = own_octets
