use Rattle.std.proofs.Common.{◌≡◌, None, drop}
use Rattle.aoi.specs.Shapes.{members, shapes, arms_seen}
use Rattle.aoi.specs.Sound.{are_sound, are_sound_arms}
use Rattle.aoi.proofs.soundness.+sound.Given as goal

abbrev pub invariant-are_sound-loop-field : goal.invariant-are_sound-loop-field
invariant-are_sound-loop-field l = are_sound (shapes l.types) l.limit (members l.fields)
    ≡ are_sound (shapes l.types) l.limit (members (drop l.field-index l.fields))

abbrev pub invariant-are_sound_arms-loop-ty : goal.invariant-are_sound_arms-loop-ty
invariant-are_sound_arms-loop-ty l = are_sound_arms (shapes l.types) l.limit (arms_seen l.arms None)
    ≡ are_sound_arms (shapes l.types) l.limit (arms_seen (drop l.ty-index l.arms) None)
