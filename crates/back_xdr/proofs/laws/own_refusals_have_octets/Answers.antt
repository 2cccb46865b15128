use Rattle.back_xdr.proofs.Refusing.{own_octets}
use Rattle.back_xdr.proofs.laws.own_refusals_have_octets.Goals as goal

pub returns : goal.returns
returns c = own_octets
