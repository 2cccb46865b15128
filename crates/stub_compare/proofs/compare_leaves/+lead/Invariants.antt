use Rattle.std.proofs.Common.{◌+◌, ◌*◌, drop}
use Prim.Native.Nat.{max}
use Rattle.cast_stub.specs.declared.send.SendOp.TheShapes.{weighed-SendOp-Switch-2}
use Rattle.cast_stub.proofs.send.SendOp.TheLaws.{the_size}
use Rattle.cast_stub.specs.Block.{cases_seen}
use Rattle.stub_flat.specs.Places.{node_of}
use Rattle.stub_compare.proofs.CompareLeads.{AreLeft, IsLeft}
use Rattle.stub_compare.proofs.compare_leaves.+lead.Given as goal

-- what the operations that are left make of each set
abbrev pub invariant-lead_ops-loop-op : goal.invariant-lead_ops-loop-op
invariant-lead_ops-loop-op l = IsLeft l.mint l.spot l.op-items (drop l.op-index l.op-items) l.fn.table l.here

-- the sets behind the bodies so far, and what the other bodies make of each set
abbrev pub invariant-lead_ways-loop-case : goal.invariant-lead_ways-loop-case
invariant-lead_ways-loop-case l = AreLeft l.mint (node_of l.mint l.place) (cases_seen l.cases l.last) (cases_seen l.case-items l.last)
    (cases_seen (drop l.case-index l.case-items) l.last) l.table l.total

-- how deep operations and bodies nest
abbrev pub decreases-lead_op : goal.decreases-lead_op
decreases-lead_op l = 3 * goal.size-lead_op l

abbrev pub decreases-lead_ops : goal.decreases-lead_ops
decreases-lead_ops l = 3 * goal.size-lead_ops l + 1

abbrev pub decreases-lead_ways : goal.decreases-lead_ways
decreases-lead_ways l = 3 * max (goal.size-lead_ways l) (weighed-SendOp-Switch-2.weight _ the_size l.last.now) + 2
