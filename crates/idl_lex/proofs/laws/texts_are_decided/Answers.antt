use Rattle.idl_lex.proofs.Deciding.{decided}
use Rattle.idl_lex.proofs.laws.texts_are_decided.Goals as goal

pub returns : goal.returns
returns c = decided
