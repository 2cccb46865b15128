use Rattle.std.proofs.Common.{◌∙◌}
use Rattle.aoi.proofs.Plainly.{sound_then, sound_else}
use Rattle.aoi.proofs.soundness.is_sound.Goals as goal

pub returns-then-are_sound_types : goal.returns-then-are_sound_types
returns-then-are_sound_types c =
    sound_then c.args.unit.now c.as_slice-types.result.now c.as_slice.result.now c.are_sound_types.result _
    (c.as_slice-types.ensures ∙ c.types.ensures) (c.as_slice.ensures ∙ c.interfaces.ensures)
    c.are_sound_types.ensures c.if-are_sound_types.true c.are_sound_interfaces.ensures

pub returns-else-are_sound_types : goal.returns-else-are_sound_types
returns-else-are_sound_types c =
    sound_else c.args.unit.now c.as_slice-types.result.now c.are_sound_types.result (c.as_slice-types.ensures ∙ c.types.ensures)
    c.are_sound_types.ensures c.if-are_sound_types.false
