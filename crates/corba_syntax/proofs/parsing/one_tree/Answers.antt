use Rattle.corba_syntax.proofs.Fronts.{one_tree_only}
use Rattle.corba_syntax.proofs.parsing.one_tree.Goals as goal

pub returns : goal.returns
returns c = one_tree_only
