use Rattle.std.proofs.Common.{◌≡◌, ◌==◌, drop, map}
use Rattle.std.specs.List.{list_any}
use Rattle.aoi.specs.Plain.{PlainOperation, plain_operation}
use Rattle.back_xdr.proofs.procedures.has_number.Given as goal

-- none so far
abbrev pub invariant-loop-own : goal.invariant-loop-own
invariant-loop-own l = list_any (λ (op : PlainOperation). op.proc_no == l.number) (map plain_operation l.ops)
    ≡ list_any (λ (op : PlainOperation). op.proc_no == l.number) (map plain_operation (drop l.own-index l.ops))
