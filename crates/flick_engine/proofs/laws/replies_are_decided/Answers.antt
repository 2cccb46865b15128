use Rattle.flick_engine.proofs.DecidingReplies.{determined_reply}
use Rattle.flick_engine.proofs.ExistingReplies.{something_reply}
use Rattle.flick_engine.proofs.laws.replies_are_decided.Goals as goal

pub returns-clause-determined : goal.returns-clause-determined
returns-clause-determined c = determined_reply

pub returns-clause-something : goal.returns-clause-something
returns-clause-something c = something_reply
