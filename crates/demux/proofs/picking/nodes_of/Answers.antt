use Rattle.std.proofs.Common.{◌∙◌}
use Rattle.demux.proofs.Finding.{still_none}
use Rattle.demux.proofs.picking.nodes_of.Goals as goal

pub loop-item-preserved : goal.loop-item-preserved
loop-item-preserved c = record {
  tree = c.in_ok-put_place.ensures.tree;
  empty = λ s o. c.in_ok-put_place.ensures.found s o ∙ still_none _ _ (c.loop-item.invariant.empty s o);
}
