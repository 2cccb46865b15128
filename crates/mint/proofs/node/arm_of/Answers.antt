use Rattle.mint.proofs.Arms.{arm_placed, arm_missed}
use Rattle.mint.proofs.node.arm_of.Goals as goal

pub returns-in-Some : goal.returns-in-Some
returns-in-Some c = rw c.as_slice.ensures (arm_placed c.args.arms.now c.args.other c.args.n.now c.in-Some.place _ c.in-Some.ensures.place)

pub returns-in-None : goal.returns-in-None
returns-in-None c = arm_missed c.args.arms.now c.args.other c.args.n.now c.in-None.ensures.place
