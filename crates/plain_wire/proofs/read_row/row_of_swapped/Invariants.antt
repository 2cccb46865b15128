use Rattle.std.proofs.Common.{◌≡◌, ◌%◌, ◌++◌, length}
use Rattle.mint.specs.Kinds.{width}
use Rattle.mint.specs.Row.{numbers_of}
use Rattle.kit_swap.specs.Swapped.{swapped}
use Rattle.plain_wire.proofs.read_row.row_of_swapped.Given as goal

abbrev pub invariant-loop-rest : goal.invariant-loop-rest
invariant-loop-rest l = record {
  kind : l.row.kind ≡ l.kind;
  reported : l.row.numbers ++ numbers_of l.kind (swapped (width l.kind) l.rest) ≡ numbers_of l.kind (swapped (width l.kind) l.octets);
  whole : length l.rest % width l.kind ≡ 0;
}

abbrev pub decreases-loop-rest : goal.decreases-loop-rest
decreases-loop-rest l = length l.rest
