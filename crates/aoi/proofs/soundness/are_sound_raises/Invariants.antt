use Rattle.std.proofs.Common.{◌≡◌, drop}
use Rattle.std.specs.List.{list_all}
use Rattle.aoi.specs.Shapes.{shapes}
use Rattle.aoi.specs.Sound.{is_sound_raise}
use Rattle.aoi.proofs.soundness.are_sound_raises.Given as goal

abbrev pub invariant-loop-raise : goal.invariant-loop-raise
invariant-loop-raise l = list_all (is_sound_raise (shapes l.types)) l.raises
    ≡ list_all (is_sound_raise (shapes l.types)) (drop l.raise-index l.raises)
