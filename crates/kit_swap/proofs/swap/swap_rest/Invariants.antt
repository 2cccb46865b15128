use Rattle.std.proofs.Common.{◌≡◌, ◌≤◌, ◌%◌, ◌-◌, length}
use Rattle.kit_swap.specs.Swapped.{swapped_to}
use Rattle.kit_swap.proofs.swap.swap_rest.Given as goal

abbrev pub invariant-loop-at : goal.invariant-loop-at
invariant-loop-at l = record {
  start : l.at % l.width ≡ 0;
  within : l.at ≤ length l.image;
  so : l.out ≡ swapped_to l.width l.at l.image l.initial.out;
}

abbrev pub decreases-loop-at : goal.decreases-loop-at
decreases-loop-at l = length l.image - l.at
