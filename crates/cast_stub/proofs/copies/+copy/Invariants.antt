use Rattle.std.proofs.Common.{◌≡◌}
use Rattle.std.proofs.Math.ListN.{take}
use Rattle.cast_stub.proofs.copies.+copy.Given as goal

abbrev pub invariant-copy_ops-loop-op : goal.invariant-copy_ops-loop-op
invariant-copy_ops-loop-op l = l.copy ≡ take l.op-index l.op-items

abbrev pub invariant-copy_op-loop-case : goal.invariant-copy_op-loop-case
invariant-copy_op-loop-case l = l.bodies ≡ take l.case-index l.case-items
