use Rattle.std.proofs.Common.{◌≡◌, ◌++◌, map, length, drop}
use Rattle.aoi.specs.Plain.{plain, plain_interface}
use Rattle.front_corba.specs.Held.{plain_offering}
use Rattle.front_corba.specs.Resolved.{interfaces}
use Rattle.front_corba.proofs.resolving.add_interfaces.Given as goal

-- the interfaces that are there, and those that are left
abbrev pub invariant-loop-place : goal.invariant-loop-place
invariant-loop-place l = record {
  types : (plain l.unit).types ≡ (plain l.initial.unit).types;
  count : length l.unit.interfaces ≡ l.place;
  ahead : map plain_interface l.unit.interfaces ++ interfaces l.place (map plain_offering (drop l.place l.list))
      ≡ interfaces 0 (map plain_offering l.list);
}
