use Rattle.std.proofs.Common.{◌≡◌, vec_len}
use Rattle.stub_compare.proofs.CompareLaying.{IsLeft}
use Rattle.stub_compare.proofs.compare_cells.lay.Given as goal

-- what is left to be laid
abbrev pub invariant-loop-j : goal.invariant-loop-j
invariant-loop-j l = record {
  left : IsLeft l.at l.i l.turned l.count l.j l.fn.places.items l.places.items;
  size : vec_len l.places ≡ vec_len l.fn.places;
}
