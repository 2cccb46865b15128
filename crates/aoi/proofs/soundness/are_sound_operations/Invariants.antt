use Rattle.std.proofs.Common.{◌≡◌, drop}
use Rattle.std.specs.List.{list_all}
use Rattle.aoi.specs.Shapes.{shapes}
use Rattle.aoi.specs.Sound.{is_sound_operation}
use Rattle.aoi.proofs.soundness.are_sound_operations.Given as goal

abbrev pub invariant-loop-op : goal.invariant-loop-op
invariant-loop-op l = list_all (is_sound_operation (shapes l.types) l.slots) l.ops
    ≡ list_all (is_sound_operation (shapes l.types) l.slots) (drop l.op-index l.ops)
