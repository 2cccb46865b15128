use Rattle.std.proofs.Common.{sym, arith}
use Rattle.mint.proofs.Halving.{halved-up, halved-down, any_found, any_missed}
use Rattle.mint.proofs.labels.is_among_rising.Goals as goal

pub loop-low-preserved-then-is_under : goal.loop-low-preserved-then-is_under
loop-low-preserved-then-is_under c = halved-up _ _ _ _ _ _ c.requires c.loop-low.invariant (omega arith)
    (omega (arith, c.loop-low-test.true)) (sym c.if-is_under.ensures)

pub loop-low-preserved : goal.loop-low-preserved
loop-low-preserved c = halved-down _ _ _ _ _ _ c.requires c.loop-low.invariant (omega arith)
    (omega (arith, c.loop-low-test.true)) (sym c.if-is_over.ensures)

pub returns-else-is_over : goal.returns-else-is_over
returns-else-is_over c = any_found _ _ _ _ _ _ c.loop-low.invariant
    (omega (arith, c.loop-low-test.true)) (sym c.if-is_under.ensures) (sym c.if-is_over.ensures)

pub returns : goal.returns
returns c = any_missed _ _ _ _ c.loop-low.invariant c.loop-low-test.false
