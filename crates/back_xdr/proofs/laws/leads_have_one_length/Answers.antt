use Rattle.back_xdr.proofs.Sent.{one_length}
use Rattle.back_xdr.proofs.laws.leads_have_one_length.Goals as goal

pub returns : goal.returns
returns c = one_length
