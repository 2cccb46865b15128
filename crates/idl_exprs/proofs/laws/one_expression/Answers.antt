use Rattle.idl_exprs.proofs.ExpressionsRead.{one_only}
use Rattle.idl_exprs.proofs.laws.one_expression.Goals as goal

pub returns : goal.returns
returns c = one_only
