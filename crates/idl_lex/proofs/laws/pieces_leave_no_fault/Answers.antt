use Rattle.idl_lex.proofs.Standing.{not_both}
use Rattle.idl_lex.proofs.laws.pieces_leave_no_fault.Goals as goal

pub returns : goal.returns
returns c = not_both
