use Rattle.std.proofs.Common.{◌≡◌, length, vec_len}
use Rattle.stub_compare.proofs.CompareNoted.{RoundsLeft}
use Rattle.stub_compare.proofs.compare_calls.find_spots.Given as goal

-- what the rounds that are left make of the nodes so far
abbrev pub invariant-loop : goal.invariant-loop
invariant-loop l = record {
  left : RoundsLeft l.mint l.fn.id l.code.ops l.code.subs (length l.code.subs) l.counter l.nodes.items;
  size : vec_len l.nodes ≡ length l.code.subs;
}
