use Rattle.std.proofs.Common.{arith}
use Rattle.pres.specs.Faces.{faces}
use Rattle.json_shape.proofs.UsualReplies.{outs_closed, outs_more}
use Rattle.json_shape.proofs.usual_answers.outs_next.Goals as goal

pub loop-i-preserved : goal.loop-i-preserved
loop-i-preserved c =
    rw c.in_ok-push-2.ensures.ok
    (outs_more (faces c.args.bound.now.nodes c.args.bound.now.shapes) c.args.ids.now _ _ _ c.loop-i._i _ c.in_ok-value.value c.loop-i.values
    c.loop-i.invariant c.loop-i-test.true c.in_ok-value.ensures)

pub returns : goal.returns
returns c =
    outs_closed (faces c.args.bound.now.nodes c.args.bound.now.shapes) c.args.ids.now _ _ _ c.loop-i._i _ c.loop-i.values c.loop-i.invariant
    (omega (arith, c.loop-i-test.false)) c.in_ok-end_items.ensures
