use Rattle.std.proofs.Common.{◌≡◌, ◌+◌, ◌*◌, None, IfSome}
use Rattle.std.proofs.Math.ListN.{drop}
use Prim.Native.Nat.{max}
use Rattle.cast_stub.specs.declared.send.SendOp.TheShapes.{weighed-SendOp-Switch-2}
use Rattle.cast_stub.proofs.send.SendOp.TheLaws.{the_size}
use Rattle.cast_stub.specs.Block.{code_seen, cases_seen}
use Rattle.chunker.specs.Left.{leave, cases_leave}
use Rattle.chunker.specs.Phases.{IsPhase}
use Rattle.chunker.proofs.leaving.+leave.Given as goal

abbrev pub invariant-leave-loop-op : goal.invariant-leave-loop-op
invariant-leave-loop-op l = (leave l.fn.phase (code_seen l.op-items) ≡ leave l.end (code_seen
    (drop l.op-index l.op-items))) × IsPhase l.end

abbrev pub invariant-switched-loop-case : goal.invariant-switched-loop-case
invariant-switched-loop-case l = (cases_leave l.fn.phase None (cases_seen l.case-items l.last) ≡ cases_leave l.fn.phase l.end (cases_seen
    (drop l.case-index l.case-items) l.last)) × IfSome l.end IsPhase

-- how deep operations and bodies nest
abbrev pub decreases-leave_op : goal.decreases-leave_op
decreases-leave_op l = 3 * goal.size-leave_op l

abbrev pub decreases-leave : goal.decreases-leave
decreases-leave l = 3 * goal.size-leave l + 1

abbrev pub decreases-switched : goal.decreases-switched
decreases-switched l = 3 * max (goal.size-switched l) (weighed-SendOp-Switch-2.weight _ the_size l.last.now) + 2
