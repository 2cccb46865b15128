use Rattle.back_xdr.proofs.Sent.{leads_read}
use Rattle.back_xdr.proofs.laws.leads_are_read.Goals as goal

pub returns : goal.returns
returns c = leads_read
