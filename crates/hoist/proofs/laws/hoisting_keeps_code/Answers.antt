use Rattle.hoist.proofs.Keeping.{keeps_code}
use Rattle.hoist.proofs.laws.hoisting_keeps_code.Goals as goal

pub returns : goal.returns
returns c = keeps_code
