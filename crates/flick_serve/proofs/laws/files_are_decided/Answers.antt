use Rattle.flick_serve.proofs.Deciding.{given_once, given_somehow}
use Rattle.flick_serve.proofs.laws.files_are_decided.Goals as goal

pub returns-clause-determined : goal.returns-clause-determined
returns-clause-determined c = given_once

pub returns-clause-something : goal.returns-clause-something
returns-clause-something c = given_somehow
