use Rattle.std.proofs.Common.{◌≡◌}
use Rattle.stub_flat.specs.Residues.{comes}
use Rattle.stub_places.specs.Sets.{set_of}
use Rattle.stub_places.proofs.sets.aligned_at.Given as goal

-- what is found of the residues so far
abbrev pub invariant-loop-k : goal.invariant-loop-k
invariant-loop-k l = l.found ≡ comes l.k l.a (set_of l.set) l.r
