use Rattle.std.proofs.Common.{take}
use Rattle.pres.specs.Raises.{FindMore}
use Rattle.pres.proofs.Found.{own}
use Rattle.pres.proofs.raises.put_operations.Given as goal

-- the exceptions of the operations so far are found
abbrev pub invariant-loop-op : goal.invariant-loop-op
invariant-loop-op l = FindMore (own (take l.op-index l.ops)) l.fn.tables.items l.tables.items
