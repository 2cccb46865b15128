use Rattle.std.proofs.Common.{arith, pos, sym}
use Rattle.mint.proofs.Arms.{arm_below}
use Rattle.pres.specs.Faces.{faces}
use Rattle.json_shape.proofs.UsualReplies.{given_taken}
use Rattle.json_shape.proofs.usual_replies.given.Goals as goal

pub in_arm-requires : goal.in_arm-requires
in_arm-requires c =
    let below = arm_below c.args.arms.now c.args.other (pos 0) c.args.id c.in-Some.item (sym c.in-Some.ensures) c.requires.below
    c.requires.other in
    omega (arith, below, c.requires.id)

pub returns : goal.returns
returns c =
    given_taken c.args.bound.now c.args.op _ _ (faces c.args.bound.now.nodes c.args.bound.now.shapes) c.args.arms.now c.args.other
    c.in-Some.item _ _ _ (sym c.in-Some.ensures) c.in_ok-head.ensures c.in_ok-value.ensures
