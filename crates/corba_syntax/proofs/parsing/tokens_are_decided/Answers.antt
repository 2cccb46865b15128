use Rattle.corba_syntax.proofs.Fronts.{decided}
use Rattle.corba_syntax.proofs.parsing.tokens_are_decided.Goals as goal

pub returns : goal.returns
returns c = decided
