use Rattle.std.proofs.Common.{◌-◌}
use Rattle.stub_flat.specs.Residues.{closing, closed}
use Rattle.stub_compare.specs.CompareSets.{Agree, applied}
use Rattle.stub_places.specs.Sets.{set_of}
use Rattle.stub_compare.proofs.compare_tables.closed.Given as goal

-- what the turns that are left make of the set so far
abbrev pub invariant-loop-turn : goal.invariant-loop-turn
invariant-loop-turn l = Agree (closing (8 - l.turn) (applied 8 l.table) (set_of l.made)) (closed (applied 8 l.table) (set_of l.fn.set))

abbrev pub decreases-loop-turn : goal.decreases-loop-turn
decreases-loop-turn l = 8 - l.turn
