use Rattle.std.proofs.Common.{◌≡◌, ◌+◌, ◌*◌}
use Rattle.std.proofs.Math.ListN.{take}
use Rattle.mint.specs.Types.{type_at, unfolded}
use Rattle.cast_stub.specs.RecvBlock.{code_seen}
use Rattle.copy_inline.specs.RecvRowBodies.{AreRowed}
use Rattle.copy_inline.specs.RecvRowed.{rowed}
use Rattle.copy_inline.proofs.recv_rows.+rows.Given as goal

abbrev pub decreases-rows_ops : goal.decreases-rows_ops
decreases-rows_ops l = 8 * l.id + 6

abbrev pub decreases-put_op : goal.decreases-put_op
decreases-put_op l = 8 * l.id + 5

abbrev pub decreases-put_loop : goal.decreases-put_loop
decreases-put_loop l = 8 * l.id + 4

abbrev pub decreases-some_body : goal.decreases-some_body
decreases-some_body l = 8 * l.id + 4

abbrev pub decreases-switch_bodies : goal.decreases-switch_bodies
decreases-switch_bodies l = 8 * l.id + 4

abbrev pub decreases-rows_cases : goal.decreases-rows_cases
decreases-rows_cases l = 8 * l.id + 3

abbrev pub decreases-rows_case : goal.decreases-rows_case
decreases-rows_case l = 8 * l.id + 2

abbrev pub decreases-rows_last : goal.decreases-rows_last
decreases-rows_last l = 8 * l.id + 3

abbrev pub invariant-rows_ops-loop-op : goal.invariant-rows_ops-loop-op
invariant-rows_ops-loop-op l = code_seen l.out ≡ rowed l.enc (type_at l.mint l.id) (code_seen (take l.op-index l.op-items))

abbrev pub invariant-rows_cases-loop-i : goal.invariant-rows_cases-loop-i
invariant-rows_cases-loop-i l = AreRowed l.enc (unfolded l.mint) (take l.i l.arms) (take l.i l.cases) l.bodies
