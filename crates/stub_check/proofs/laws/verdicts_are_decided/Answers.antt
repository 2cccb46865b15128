use Rattle.stub_check.proofs.Deciding.{verdict_once, verdict_somehow}
use Rattle.stub_check.proofs.laws.verdicts_are_decided.Goals as goal

pub returns-clause-determined : goal.returns-clause-determined
returns-clause-determined c = verdict_once

pub returns-clause-something : goal.returns-clause-something
returns-clause-something c = verdict_somehow
