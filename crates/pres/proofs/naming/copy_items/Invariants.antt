use Rattle.std.proofs.Common.{◌≡◌, ◌++◌, drop}
use Rattle.pres.proofs.naming.copy_items.Given as goal

-- the copies so far, and what is left
abbrev pub invariant-loop-name : goal.invariant-loop-name
invariant-loop-name l = l.copies ++ drop l.name-index l.items ≡ l.items
