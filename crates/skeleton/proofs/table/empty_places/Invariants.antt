use Rattle.std.proofs.Common.{◌≡◌, None, replicate}
use Rattle.skeleton.proofs.table.empty_places.Given as goal

-- so many places so far
abbrev pub invariant-loop : goal.invariant-loop
invariant-loop l = l.places ≡ replicate l.counter None
