use Rattle.std.proofs.Common.{◌≡◌, map, drop}
use Rattle.aoi.specs.Plain.{plain_interface}
use Rattle.back_xdr.specs.Procedures.{before}
use Rattle.back_xdr.specs.Seeking.{named_from}
use Rattle.back_xdr.proofs.seek.seek.Given as goal

-- what the call names among all interfaces it names among those that are left, after the operations of the others
abbrev pub invariant-loop-i : goal.invariant-loop-i
invariant-loop-i l = record {
  at : l.place ≡ l.i-index;
  left : named_from 0 (map plain_interface l.interfaces) l.call
      ≡ named_from (before l.place (map plain_interface l.interfaces)) (map plain_interface (drop l.i-index l.interfaces)) l.call;
}
