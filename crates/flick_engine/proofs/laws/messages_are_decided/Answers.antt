use Rattle.flick_engine.proofs.Deciding.{determined}
use Rattle.flick_engine.proofs.Existing.{something}
use Rattle.flick_engine.proofs.laws.messages_are_decided.Goals as goal

pub returns-clause-determined : goal.returns-clause-determined
returns-clause-determined c = determined

pub returns-clause-something : goal.returns-clause-something
returns-clause-something c = something
