use Rattle.std.proofs.Common.{◌≡◌, ◌+◌, map, drop}
use Rattle.std.specs.List.{position_from}
use Rattle.aoi.specs.Plain.{plain_operation, plain_interface}
use Rattle.back_mach.specs.Seeking.{has_slot}
use Rattle.back_mach.proofs.seek.place_of.Given as goal

-- the first place among all operations is that among those that are left
abbrev pub invariant-loop-op : goal.invariant-loop-op
invariant-loop-op l = record {
  place : l.place ≡ l.first + l.op-index;
  left : position_from (has_slot l.i.base l.id) l.first (plain_interface l.i).ops
      ≡ position_from (has_slot l.i.base l.id) l.place (map plain_operation (drop l.op-index l.op-items));
}
