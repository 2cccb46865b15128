use Rattle.corba_syntax.proofs.InterfacesRead.{one_interface_only}
use Rattle.corba_syntax.proofs.laws.one_interface.Goals as goal

pub returns : goal.returns
returns c = one_interface_only
