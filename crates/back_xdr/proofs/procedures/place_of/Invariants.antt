use Rattle.std.proofs.Common.{◌≡◌, ◌+◌, ◌++◌, map, drop}
use Rattle.std.specs.Prelude.{◌==◌}
use Rattle.std.specs.List.{position_from}
use Rattle.aoi.specs.Plain.{PlainOperation, plain_operation, plain_interface}
use Rattle.wire_def.specs.declared.encoding.Back.TheVariants as back
use Rattle.pres.specs.Offers.{gotten}
use Rattle.back_xdr.specs.Procedures.{numbers}
use Rattle.back_xdr.proofs.procedures.place_of.Given as goal

-- the first place among all procedures is that among those that are left
abbrev pub invariant-loop-op : goal.invariant-loop-op
invariant-loop-op l = record {
  place : l.place ≡ l.first + l.op-index;
  left : position_from (λ n. n == l.number) l.first (numbers (plain_interface l.i))
      ≡ position_from (λ n. n == l.number) l.place (map (λ (op : PlainOperation). op.proc_no)
      (map plain_operation (drop l.op-index l.op-items) ++ gotten back.Xdr (plain_interface l.i)));
}
