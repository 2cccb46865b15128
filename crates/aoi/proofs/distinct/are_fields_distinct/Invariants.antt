use Rattle.std.proofs.Common.{◌≡◌, drop}
use Rattle.aoi.specs.Shapes.{members}
use Rattle.aoi.specs.Sound.{are_distinct, names_of}
use Rattle.aoi.proofs.distinct.are_fields_distinct.Given as goal

abbrev pub invariant-loop-i : goal.invariant-loop-i
invariant-loop-i l = are_distinct (names_of (members l.fields)) ≡ are_distinct (names_of (members (drop l.i l.fields)))
