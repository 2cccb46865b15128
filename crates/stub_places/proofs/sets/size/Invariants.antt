use Rattle.std.proofs.Common.{◌≡◌, ◌≤◌}
use Rattle.stub_flat.specs.Residues.{size_first}
use Rattle.stub_places.specs.Sets.{set_of}
use Rattle.stub_places.proofs.sets.size.Given as goal

-- how many there are of the residues so far
abbrev pub invariant-loop-r : goal.invariant-loop-r
invariant-loop-r l = (l.n ≡ size_first l.r (set_of l.set)) × (l.n ≤ l.r)
