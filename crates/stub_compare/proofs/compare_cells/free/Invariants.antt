use Rattle.std.proofs.Common.{◌≡◌, ◌≤◌, ◌-◌, None, replicate, vec_len}
use Rattle.stub_compare.proofs.compare_cells.free.Given as goal

-- the places so far
abbrev pub invariant-loop-places : goal.invariant-loop-places
invariant-loop-places l = record { free : l.places.items ≡ replicate (vec_len l.places) None; few : vec_len l.places ≤ l.size }

abbrev pub decreases-loop-places : goal.decreases-loop-places
decreases-loop-places l = l.size - vec_len l.places
