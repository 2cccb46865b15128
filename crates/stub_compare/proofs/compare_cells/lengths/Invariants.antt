use Rattle.std.proofs.Common.{◌≡◌, drop}
use Rattle.stub_compare.specs.CompareCells.{lengths, plus}
use Rattle.stub_compare.proofs.compare_cells.lengths.Given as goal

-- the octets of the puts so far, and those of the puts that are left
abbrev pub invariant-loop-put : goal.invariant-loop-put
invariant-loop-put l = plus l.sum (lengths (drop l.put-index l.put-items)) ≡ lengths l.put-items
