use Rattle.std.proofs.Common.{◌≡◌, ◌*◌}
use Rattle.kit_swap.specs.Swapped.{swapped_to}
use Rattle.kit_swap.proofs.swap.swap_vectors.Given as goal

abbrev pub invariant-loop-vector : goal.invariant-loop-vector
invariant-loop-vector l = l.out ≡ swapped_to l.width (l.vector * 16) l.image l.initial.out
