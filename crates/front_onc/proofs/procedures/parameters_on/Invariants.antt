use Rattle.std.proofs.Common.{◌≡◌, [], map, length, drop}
use Rattle.aoi.specs.Shapes.{seen_field}
use Rattle.front_onc.specs.Programs.{parameters_on}
use Rattle.front_onc.proofs.procedures.parameters_on.Given as goal

abbrev pub invariant-loop-i : goal.invariant-loop-i
invariant-loop-i l = record {
  place : length l.fields ≡ l.i;
  ahead : parameters_on l.scope l.d [] l.list ≡ parameters_on l.scope l.d (map seen_field l.fields) (drop l.i l.list);
}
