use Rattle.std.proofs.Common.{sym, ◌∙◌}
use Rattle.aoi.proofs.Plainly.{sound_plain}
use Rattle.flick_explain.proofs.fronts.bound.Goals as goal

pub bind-requires : goal.bind-requires
bind-requires c = sym (sound_plain c.args.unit) ∙ c.requires
