use Rattle.mig_syntax.proofs.Fronts.{decided}
use Rattle.mig_syntax.proofs.parsing.tokens_are_decided.Goals as goal

pub returns : goal.returns
returns c = decided
