use Rattle.corba_syntax.proofs.OperationsRead.{one_operation_only}
use Rattle.corba_syntax.proofs.laws.one_operation.Goals as goal

pub returns : goal.returns
returns c = one_operation_only
