use Rattle.back_cdr.proofs.Short.{names_short}
use Rattle.back_cdr.proofs.targets.names_are_short.Goals as goal

pub returns : goal.returns
returns c = names_short c.args.bound.now c.ops-ops.ensures.stands
