use Rattle.std.proofs.Common.{◌≡◌, drop}
use Rattle.std.specs.List.{list_all}
use Rattle.aoi.specs.Shapes.{shapes}
use Rattle.aoi.specs.Sound.{is_sound_interface}
use Rattle.aoi.proofs.soundness.are_sound_interfaces.Given as goal

abbrev pub invariant-loop-i : goal.invariant-loop-i
invariant-loop-i l = list_all (is_sound_interface (shapes l.types)) l.interfaces
    ≡ list_all (is_sound_interface (shapes l.types)) (drop l.i-index l.interfaces)
