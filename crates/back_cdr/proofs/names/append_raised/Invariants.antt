use Rattle.std.proofs.Common.{◌≡◌, ◌++◌, map, drop}
use Rattle.aoi.specs.Plain.{plain_operation}
use Rattle.back_cdr.specs.Offered.{raised_by}
use Rattle.back_cdr.proofs.names.append_raised.Given as goal

-- what was appended, and the exceptions of the operations that are left
abbrev pub invariant-loop-op : goal.invariant-loop-op
invariant-loop-op l = l.fn.raised ++ map raised_by (map plain_operation l.ops)
    ≡ l.raised ++ map raised_by (map plain_operation (drop l.op-index l.ops))
