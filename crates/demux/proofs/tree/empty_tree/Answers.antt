use Rattle.demux.proofs.Growing.{one_node}
use Rattle.demux.proofs.tree.empty_tree.Goals as goal

pub returns-clause-tree : goal.returns-clause-tree
returns-clause-tree c = one_node _ _ _ c.in_ok-push.ensures.items c.new-nodes.ensures.items c.new.ensures
