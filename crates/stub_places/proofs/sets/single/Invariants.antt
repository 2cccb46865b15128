use Rattle.std.proofs.Common.{◌≡◌}
use Rattle.stub_flat.specs.Residues.{single_first}
use Rattle.stub_places.specs.Sets.{set_of}
use Rattle.stub_places.proofs.sets.single.Given as goal

-- the last of the residues so far
abbrev pub invariant-loop-r : goal.invariant-loop-r
invariant-loop-r l = l.last ≡ single_first l.r (set_of l.set)
