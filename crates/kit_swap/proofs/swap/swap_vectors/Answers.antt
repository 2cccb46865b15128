use Rattle.std.proofs.Common.{arith}
use Rattle.kit_swap.proofs.Moving.{begun, more_vectors}
use Rattle.kit_swap.proofs.swap.swap_vectors.Goals as goal

pub loop-vector-init : goal.loop-vector-init
loop-vector-init c = begun c.args.width c.args.image.now c.args.out.now c.requires.width

pub loop-vector-preserved : goal.loop-vector-preserved
loop-vector-preserved c =
    let k = c.loop-vector.vector in
    more_vectors c.args.width k c.lanes_of-lanes.result c.args.image.now c.args.out.now c.requires.width c.lanes_of-lanes.ensures
    (omega arith) c.requires.room _ _ c.loop-vector.invariant c.swap_vector.ensures
