use Rattle.std.proofs.Common.{◌<◌, length, slice_get, ap, sym, ◌∙◌, rules, arith, FitsSigned}
use Rattle.std.specs.Int.{w128}
use Rattle.std.proofs.lemmas.Int.{to_z-of_z}
use Rattle.case_make.specs.Draws.{below}
use Rattle.case_make.proofs.Drawing.{drawn_arm_at, found_there}
use Rattle.case_make.proofs.maker.Maker.tag.Goals as goal

pub returns-in-Some-clause-value : goal.returns-in-Some-clause-value
returns-in-Some-clause-value c =
    let fits : FitsSigned w128 c.in-Some.arm.now.0 = search rules in
    let place = c.draw-at.ensures.value in
    let there = ap (slice_get c.args.arms.now) (sym place) ∙ sym c.in-Some.ensures in
    to_z-of_z w128 _ fits ∙ sym (drawn_arm_at c.args.arms.now _ c.args.self.now.state c.in-Some.arm.now
    (ap (λ m. slice_get c.args.arms.now (below m c.args.self.now.state)) (sym c.len-2.ensures) ∙ there))

pub returns-in-None-clause-value : goal.returns-in-None-clause-value
returns-in-None-clause-value c =
    let less : c.draw-at.result < length c.args.arms.now = omega (arith, c.draw-at.ensures.less, c.len-2.ensures) in
    absurd (found_there c.args.arms.now c.draw-at.result less (sym c.in-None.ensures))
