use Rattle.stub_compare.specs.CompareSets.{Agree, applied}
use Rattle.stub_places.specs.Sets.{set_of}
use Rattle.stub_compare.proofs.compare_tables.applied.Given as goal

-- what is made of the residues so far
abbrev pub invariant-loop-k : goal.invariant-loop-k
invariant-loop-k l = Agree (set_of l.made) (applied l.k l.table (set_of l.set))
