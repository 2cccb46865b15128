use Rattle.std.proofs.Common.{◌+◌, ◌*◌, ◌≡◌, drop, vec_len}
use Prim.Native.Nat.{max}
use Rattle.cast_stub.specs.declared.send.SendOp.TheShapes.{weighed-SendOp-Switch-2}
use Rattle.cast_stub.proofs.send.SendOp.TheLaws.{the_size}
use Rattle.cast_stub.specs.Block.{cases_seen, code_seen}
use Rattle.stub_flat.specs.Places.{node_of}
use Rattle.stub_flat.specs.Flat.{calls, way_calls}
use Rattle.stub_compare.proofs.CompareNoted.{IsLeft}
use Rattle.stub_compare.proofs.compare_calls.+note.Given as goal

-- what is left to be noted
abbrev pub invariant-note_ops-loop-op : goal.invariant-note_ops-loop-op
invariant-note_ops-loop-op l = record {
  left : IsLeft (calls l.mint l.spot (code_seen l.op-items)) (calls l.mint l.spot (code_seen (drop l.op-index l.op-items))) l.fn.nodes.items
      l.nodes.items;
  size : vec_len l.nodes ≡ vec_len l.fn.nodes;
}

abbrev pub invariant-note_ways-loop-case : goal.invariant-note_ways-loop-case
invariant-note_ways-loop-case l = record {
  left : IsLeft (way_calls l.mint (node_of l.mint l.place) (cases_seen l.cases l.last) (cases_seen l.case-items l.last))
      (way_calls l.mint (node_of l.mint l.place) (cases_seen l.cases l.last) (cases_seen (drop l.case-index l.case-items) l.last))
      l.fn.nodes.items l.nodes.items;
  size : vec_len l.nodes ≡ vec_len l.fn.nodes;
}

-- how deep operations and bodies nest
abbrev pub decreases-note_op : goal.decreases-note_op
decreases-note_op l = 3 * goal.size-note_op l

abbrev pub decreases-note_ops : goal.decreases-note_ops
decreases-note_ops l = 3 * goal.size-note_ops l + 1

abbrev pub decreases-note_ways : goal.decreases-note_ways
decreases-note_ways l = 3 * max (goal.size-note_ways l) (weighed-SendOp-Switch-2.weight _ the_size l.last.now) + 2
