use Rattle.std.proofs.Common.{sym, ◌∙◌, arith}
use Rattle.json_shape.proofs.Items.{copied_more, copied_done}
use Rattle.json_shape.proofs.replies.joined.Goals as goal

pub loop-other-preserved : goal.loop-other-preserved
loop-other-preserved c =
    let more = copied_more c.args.others.now c.loop-other.other-index c.other-item.result c.loop-other.list.items
    c.in_ok-clone.field-0 c.loop-other-test.true c.other-item.is c.in_ok-clone.ensures.cases in
    rw c.in_ok-push-2.ensures.items (sym more ∙ c.loop-other.invariant)

pub returns : goal.returns
returns c =
    copied_done c.args.others.now c.loop-other.other-index c.loop-other.list.items _ (omega (arith, c.loop-other-test.false))
    c.loop-other.invariant
