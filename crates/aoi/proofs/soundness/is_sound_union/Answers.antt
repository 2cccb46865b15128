use Rattle.aoi.proofs.Numbers.{union_is}
use Rattle.aoi.proofs.soundness.is_sound_union.Goals as goal

pub returns : goal.returns
returns c = union_is _ c.args.arms.now _ _ _ c.are_sound_labels.ensures c.has_arm.ensures
