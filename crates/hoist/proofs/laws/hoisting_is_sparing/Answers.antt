use Rattle.hoist.proofs.Sparing.{sparing}
use Rattle.hoist.proofs.laws.hoisting_is_sparing.Goals as goal

pub returns : goal.returns
returns c = sparing
