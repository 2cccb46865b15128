use Rattle.std.proofs.Common.{◌≤◌, drop, length}
use Rattle.pres.specs.Tables.{FindsNumbers}
use Rattle.pres.proofs.items.put_numbers.Given as goal

-- the items from a place on are found
abbrev pub invariant-loop-i : goal.invariant-loop-i
invariant-loop-i l = (l.i ≤ length l.items) × FindsNumbers (drop l.i l.items) l.numbers

abbrev pub decreases-loop-i : goal.decreases-loop-i
decreases-loop-i l = l.i
