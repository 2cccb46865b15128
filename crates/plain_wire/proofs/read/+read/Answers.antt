use Rattle.std.proofs.Common.{rules, SFits}
use Rattle.std.specs.Int.{w128}
use Rattle.std.proofs.lemmas.Int.{to_z-of_z}
use Rattle.mint.specs.Types.{scalar_of, unfolded}
use Rattle.plain_wire.proofs.Reading.{choice_got, seen-Arm}
use Rattle.plain_wire.proofs.read.+read.Goals as goal

pub choice-returns : goal.choice-returns
choice-returns t c =
    let fits : SFits w128 c.in_ok-n.n = search rules in
    let same = to_z-of_z w128 c.in_ok-n.n fits in
    let whole = choice_got c.args.enc (scalar_of c.args.tag.now) (unfolded c.args.mint.now) c.args.arms.now c.args.other c.args.at.place
    c.args.at.rest.now
    c.in_ok-n.n c.in_ok-n.next.place c.in_ok-n.next.rest.now c.in_ok-n.item c.in_ok-n.ensures.arm c.in_ok-n.ensures.read _ _ _
    c.in_ok-inner.ensures in
    rw (same, seen-Arm, c.in_ok-boxed.ensures) whole
