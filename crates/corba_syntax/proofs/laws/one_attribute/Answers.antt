use Rattle.corba_syntax.proofs.AttributesRead.{one_attribute_only}
use Rattle.corba_syntax.proofs.laws.one_attribute.Goals as goal

pub returns : goal.returns
returns c = one_attribute_only
