use Rattle.mig_syntax.proofs.Fronts.{one_tree_only}
use Rattle.mig_syntax.proofs.parsing.one_tree.Goals as goal

pub returns : goal.returns
returns c = one_tree_only
