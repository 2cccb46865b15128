use Rattle.flick_bridge.proofs.Passing.{bridged_once}
use Rattle.flick_bridge.proofs.laws.answers_are_determined.Goals as goal

pub returns : goal.returns
returns c = bridged_once
