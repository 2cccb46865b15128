use Rattle.flick_check.proofs.Deciding.{checked_once, checked_somehow}
use Rattle.flick_check.proofs.laws.files_are_decided.Goals as goal

pub returns-clause-determined : goal.returns-clause-determined
returns-clause-determined c = checked_once

pub returns-clause-something : goal.returns-clause-something
returns-clause-something c = checked_somehow
