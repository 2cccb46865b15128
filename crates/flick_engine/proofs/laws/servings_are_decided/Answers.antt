use Rattle.flick_engine.proofs.Servings.{served_once, served_somehow}
use Rattle.flick_engine.proofs.laws.servings_are_decided.Goals as goal

pub returns-clause-determined : goal.returns-clause-determined
returns-clause-determined c = served_once

pub returns-clause-something : goal.returns-clause-something
returns-clause-something c = served_somehow
