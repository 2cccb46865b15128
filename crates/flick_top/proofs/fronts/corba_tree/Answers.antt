use Rattle.aoi.specs.Plain.{plain}
use Rattle.front_corba.proofs.Whole.{resolved_sound}
use Rattle.flick_top.proofs.fronts.corba_tree.Goals as goal

pub returns-in-Ok-clause-sound : goal.returns-in-Ok-clause-sound
returns-in-Ok-clause-sound c = resolved_sound c.args.tree.now (plain c.in-Ok.unit) c.requires c.in-Ok.ensures.value
