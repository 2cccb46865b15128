use Rattle.std.proofs.Common.{rules, ap, ◌∙◌}
use Rattle.mint.specs.Types.{level, unfolded}
use Rattle.mint.proofs.Arms.{arm_is}
use Rattle.mint.proofs.Fitting.{items_are}
use Rattle.mint.proofs.fits.+is_of.Goals as goal

pub is_of-returns-then-allows : goal.is_of-returns-then-allows
is_of-returns-then-allows t c = items_are _ _ c.in-Items.count _ c.in-Some-as_items.values.now _
    (c.in-Some.ensures.is ∙ ap (level (unfolded c.args.mint.now)) c.in-Items.is) c.in-Some-as_items.ensures (search rules)
    c.each_is_of.ensures

pub is_of_arm-returns-in-Some : goal.is_of_arm-returns-in-Some
is_of_arm-returns-in-Some t c = arm_is _ c.args.arms.now c.args.other c.args.n.now c.in-Some.item _ _ c.in-Some.ensures c.is_of.ensures
