use Rattle.std.proofs.Common.{◌≡◌, ◌++◌, drop}
use Rattle.back_cdr.proofs.listing.wholes.Given as goal

-- the names so far, and those that are left
abbrev pub invariant-loop-name : goal.invariant-loop-name
invariant-loop-name l = l.names ≡ l.all ++ drop l.name-index l.names
