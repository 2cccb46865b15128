use Rattle.std.proofs.Common.{◌+◌, ◌*◌, drop}
use Prim.Native.Nat.{max}
use Rattle.cast_stub.specs.declared.send.SendOp.TheShapes.{weighed-SendOp-Switch-2}
use Rattle.cast_stub.proofs.send.SendOp.TheLaws.{the_size}
use Rattle.cast_stub.specs.Block.{cases_seen}
use Rattle.stub_flat.specs.Places.{node_of}
use Rattle.stub_places.specs.Sets.{set_of}
use Rattle.stub_compare.proofs.CompareArms.{AreLeft, IsLeft}
use Rattle.stub_compare.proofs.compare_items.+put.Given as goal

-- what is put of the operations, and what is left
abbrev pub invariant-put_ops-loop-op : goal.invariant-put_ops-loop-op
invariant-put_ops-loop-op l = IsLeft l.mint l.spot l.op-items (drop l.op-index l.op-items) (set_of l.fn.set) (set_of l.here) l.fn.out l.out

-- what is put of the bodies, and what is left; the residues behind those that are put
abbrev pub invariant-put_ways-loop-case : goal.invariant-put_ways-loop-case
invariant-put_ways-loop-case l = AreLeft l.mint (node_of l.mint l.place) (cases_seen l.cases l.last) (cases_seen l.case-items l.last)
    (cases_seen (drop l.case-index l.case-items) l.last) (set_of l.set) (set_of l.total) l.fn.out l.out

-- how deep operations and bodies nest
abbrev pub decreases-put_op : goal.decreases-put_op
decreases-put_op l = 3 * goal.size-put_op l

abbrev pub decreases-put_ops : goal.decreases-put_ops
decreases-put_ops l = 3 * goal.size-put_ops l + 1

abbrev pub decreases-put_ways : goal.decreases-put_ways
decreases-put_ways l = 3 * max (goal.size-put_ways l) (weighed-SendOp-Switch-2.weight _ the_size l.last.now) + 2
