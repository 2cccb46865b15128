use Rattle.demux.proofs.Growing.{leads_already}
use Rattle.demux.proofs.tree.next_node.Goals as goal

pub returns-in-Some : goal.returns-in-Some
returns-in-Some c = leads_already _ _ _ _ _ c.requires.tree c.as_slice.ensures.value c.in-Some.ensures
