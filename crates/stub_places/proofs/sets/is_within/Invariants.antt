use Rattle.std.proofs.Common.{◌≡◌}
use Rattle.stub_flat.specs.Residues.{within_first}
use Rattle.stub_places.specs.Sets.{set_of}
use Rattle.stub_places.proofs.sets.is_within.Given as goal

-- whether the residues so far are within
abbrev pub invariant-loop-r : goal.invariant-loop-r
invariant-loop-r l = l.all ≡ within_first l.r (set_of l.a) (set_of l.b)
