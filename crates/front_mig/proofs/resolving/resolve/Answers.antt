use Rattle.front_mig.proofs.Whole.{made_sound}
use Rattle.front_mig.proofs.resolving.resolve.Goals as goal

pub returns-clause-sound : goal.returns-clause-sound
returns-clause-sound c =
    made_sound c.args.tree.now.base c.in_ok-base.base _ c.as_slice.result.now _ _ c.into_unit.result c.in_ok-base.ensures.value
    c.new-r.ensures c.in_ok-state_all.ensures c.into_unit.ensures.ok
