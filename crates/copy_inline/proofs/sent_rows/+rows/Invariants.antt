use Rattle.std.proofs.Common.{◌≡◌, ◌+◌, ◌*◌, length}
use Rattle.std.proofs.Math.ListN.{take, drop}
use Rattle.std.specs.Vec.Iter.{into_iter_items, into_iter_len}
use Rattle.mint.specs.Types.{type_at, unfolded}
use Rattle.cast_stub.specs.Append.{append}
use Rattle.cast_stub.specs.Block.{code_seen}
use Rattle.copy_inline.specs.Ready.{IsReady}
use Rattle.copy_inline.specs.RowBodies.{AreRowed}
use Rattle.copy_inline.specs.Rowed.{rowed}
use Rattle.copy_inline.proofs.sent_rows.+rows.Given as goal

abbrev pub decreases-rows_ops : goal.decreases-rows_ops
decreases-rows_ops l = 8 * l.id + 6

abbrev pub decreases-put_op : goal.decreases-put_op
decreases-put_op l = 8 * l.id + 5

abbrev pub decreases-loop_op : goal.decreases-loop_op
decreases-loop_op l = 8 * l.id + 4

abbrev pub decreases-some_body : goal.decreases-some_body
decreases-some_body l = 8 * l.id + 4

abbrev pub decreases-switch_bodies : goal.decreases-switch_bodies
decreases-switch_bodies l = 8 * l.id + 4

abbrev pub decreases-rows_cases : goal.decreases-rows_cases
decreases-rows_cases l = 8 * l.id + 3

abbrev pub decreases-rows_case : goal.decreases-rows_case
decreases-rows_case l = 8 * l.id + 2

abbrev pub decreases-rows_last : goal.decreases-rows_last
decreases-rows_last l = 8 * l.id + 3

-- what is made, and what is left
abbrev pub invariant-rows_ops-loop-op : goal.invariant-rows_ops-loop-op
invariant-rows_ops-loop-op l = record {
  next : (goal.iterator-rows_ops-loop-op).can_next l.op-iterator;
  finite : (goal.iterator-rows_ops-loop-op).is_finite l.op-iterator;
  long : into_iter_len l.op-iterator ≡ length (into_iter_items l.op-iterator);
  ready : IsReady l.enc (type_at l.mint l.id) (code_seen (into_iter_items l.op-iterator));
  made : append (code_seen l.out) (rowed l.enc (type_at l.mint l.id) (code_seen (into_iter_items l.op-iterator)))
      ≡ rowed l.enc (type_at l.mint l.id) (code_seen l.fn.ops);
}

-- bodies for the first arms, and what is left
abbrev pub invariant-rows_cases-loop-case : goal.invariant-rows_cases-loop-case
invariant-rows_cases-loop-case l = record {
  next : (goal.iterator-rows_cases-loop-case).can_next l.case-iterator;
  finite : (goal.iterator-rows_cases-loop-case).is_finite l.case-iterator;
  long : into_iter_len l.case-iterator ≡ length (into_iter_items l.case-iterator);
  left : into_iter_items l.case-iterator ≡ drop (length l.bodies) l.fn.cases;
  made : AreRowed l.enc (unfolded l.mint) (take (length l.bodies) l.arms) (take (length l.bodies) l.fn.cases) l.bodies;
}
