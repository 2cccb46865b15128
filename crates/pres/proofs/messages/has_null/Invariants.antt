use Rattle.std.proofs.Common.{◌≡◌, ◌==◌, drop, map}
use Rattle.std.specs.List.{list_any}
use Rattle.aoi.specs.Plain.{PlainOperation, plain_operation}
use Rattle.pres.proofs.messages.has_null.Given as goal

-- none so far
abbrev pub invariant-loop-op : goal.invariant-loop-op
invariant-loop-op l = list_any (λ (op : PlainOperation). op.proc_no == 0) (map plain_operation l.ops)
    ≡ list_any (λ (op : PlainOperation). op.proc_no == 0) (map plain_operation (drop l.op-index l.ops))
