use Rattle.std.proofs.Common.{◌≡◌, drop, vec_len}
use Rattle.stub_flat.specs.Items.{puts_on}
use Rattle.stub_compare.specs.CompareCells.{seen}
use Rattle.stub_compare.proofs.compare_cells.lay_all.Given as goal

-- the puts that are left
abbrev pub invariant-loop-i : goal.invariant-loop-i
invariant-loop-i l = record {
  left : puts_on l.put-items (seen l.puts l.fn.places.items) ≡ puts_on (drop l.i l.put-items) (seen l.puts l.places.items);
  size : vec_len l.places ≡ vec_len l.fn.places;
}
