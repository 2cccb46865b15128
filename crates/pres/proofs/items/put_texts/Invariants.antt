use Rattle.std.proofs.Common.{◌≤◌, drop, length}
use Rattle.pres.specs.Tables.{FindsTexts}
use Rattle.pres.proofs.items.put_texts.Given as goal

-- the items from a place on are found
abbrev pub invariant-loop-i : goal.invariant-loop-i
invariant-loop-i l = (l.i ≤ length l.items) × FindsTexts (drop l.i l.items) l.texts

abbrev pub decreases-loop-i : goal.decreases-loop-i
decreases-loop-i l = l.i
