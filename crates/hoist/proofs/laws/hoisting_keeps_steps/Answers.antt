use Rattle.hoist.proofs.Keeping.{keeps_steps}
use Rattle.hoist.proofs.laws.hoisting_keeps_steps.Goals as goal

pub returns : goal.returns
returns c = keeps_steps
