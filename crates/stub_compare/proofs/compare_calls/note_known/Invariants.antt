use Rattle.std.proofs.Common.{◌≡◌, drop, map, vec_len}
use Rattle.cast_stub.specs.Block.{code_seen}
use Rattle.stub_flat.specs.Flat.{calls_of_known}
use Rattle.stub_compare.proofs.CompareNoted.{IsLeft}
use Rattle.stub_compare.proofs.compare_calls.note_known.Given as goal

-- what is left to be noted
abbrev pub invariant-loop-i : goal.invariant-loop-i
invariant-loop-i l = record {
  left : IsLeft (calls_of_known l.mint (map code_seen l.body-items) l.known)
      (calls_of_known l.mint (map code_seen (drop l.i l.body-items)) (drop l.i l.known)) l.fn.nodes.items l.nodes.items;
  size : vec_len l.nodes ≡ vec_len l.fn.nodes;
}
