use Rattle.std.proofs.Common.{◌≡◌, drop}
use Rattle.aoi.specs.Shapes.{shapes}
use Rattle.aoi.specs.Sound.{are_sound_types}
use Rattle.aoi.proofs.soundness.are_sound_types.Given as goal

abbrev pub invariant-loop-i : goal.invariant-loop-i
invariant-loop-i l = are_sound_types (shapes l.types) 0 (shapes l.types) ≡ are_sound_types (shapes l.types) l.i (shapes (drop l.i l.types))
