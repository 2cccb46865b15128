use Rattle.std.proofs.Common.{◌≡◌, drop}
use Rattle.aoi.specs.Units.{is_twice}
use Rattle.aoi.proofs.units.is_twice.Given as goal

abbrev pub invariant-loop-other : goal.invariant-loop-other
invariant-loop-other l = is_twice l.i l.others ≡ is_twice l.i (drop l.other-index l.others)
