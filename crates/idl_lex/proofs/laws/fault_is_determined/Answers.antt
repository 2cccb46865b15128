use Rattle.idl_lex.proofs.Standing.{same_fault}
use Rattle.idl_lex.proofs.laws.fault_is_determined.Goals as goal

pub returns : goal.returns
returns c = same_fault
