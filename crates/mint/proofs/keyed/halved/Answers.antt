use Rattle.std.proofs.Common.{sym, arith}
use Rattle.mint.proofs.Halving.{entry_up, entry_down, entry_found, entry_missed}
use Rattle.mint.proofs.keyed.halved.Goals as goal

pub loop-low-preserved-then-is_below : goal.loop-low-preserved-then-is_below
loop-low-preserved-then-is_below g c = entry_up _ c.index-entries-middle.result _ _ _ _ c.requires c.loop-low.invariant (omega arith)
    (omega (arith, c.loop-low-test.true)) (sym c.if-is_below.ensures)

pub loop-low-preserved : goal.loop-low-preserved
loop-low-preserved g c = entry_down _ c.index-entries-middle.result _ _ _ _ c.requires c.loop-low.invariant (omega arith)
    (omega (arith, c.loop-low-test.true)) (sym c.if-is_below-2.ensures)

pub returns-else-is_below-2-clause-place : goal.returns-else-is_below-2-clause-place
returns-else-is_below-2-clause-place g c = entry_found _ c.index-entries-middle.result _ _ _ _ c.requires c.loop-low.invariant
    (omega (arith, c.loop-low-test.true)) (sym c.if-is_below.ensures) (sym c.if-is_below-2.ensures)

pub returns-clause-place : goal.returns-clause-place
returns-clause-place g c = entry_missed _ _ _ _ c.loop-low.invariant c.loop-low-test.false
