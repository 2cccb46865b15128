use Rattle.std.proofs.Common.{◌≡◌, ◌≤◌, ◌%◌, ◌-◌, length, take}
use Rattle.mint.specs.Kinds.{width}
use Rattle.mint.specs.Row.{numbers_of}
use Rattle.kit_swap.specs.Swapped.{swapped}
use Rattle.raw_buf.proofs.view.turned_row.Given as goal

abbrev pub invariant-loop-at : goal.invariant-loop-at
invariant-loop-at l = record {
  start : l.at % width l.fn.kind ≡ 0;
  within : l.at ≤ length l.image;
  row : l.row ≡ record { kind = l.fn.kind; numbers = numbers_of l.fn.kind (swapped (width l.fn.kind) (take l.at l.image)) };
}

abbrev pub decreases-loop-at : goal.decreases-loop-at
decreases-loop-at l = length l.image - l.at
