use Rattle.std.proofs.Common.{◌≡◌, ◌≤◌, ◌+◌, ◌%◌, ◌++◌, length}
use Rattle.kit_swap.specs.Swapped.{swapped}
use Rattle.plain_wire.proofs.send_array.put_swapped.Given as goal

abbrev pub invariant-loop-rest : goal.invariant-loop-rest
invariant-loop-rest l = record {
  reported : l.fn.out ++ swapped l.width l.image ≡ l.out ++ swapped l.width l.rest;
  placed : l.at + length l.fn.out ≡ l.place + length l.out;
  grown : length l.fn.out ≤ length l.out;
  whole : length l.rest % l.width ≡ 0;
}

abbrev pub decreases-loop-rest : goal.decreases-loop-rest
decreases-loop-rest l = length l.rest
