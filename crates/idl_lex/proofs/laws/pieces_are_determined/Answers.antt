use Rattle.idl_lex.proofs.Standing.{same_pieces}
use Rattle.idl_lex.proofs.laws.pieces_are_determined.Goals as goal

pub returns : goal.returns
returns c = same_pieces
