use Rattle.flick_engine.proofs.RepliesBack.{reply_read_back}
use Rattle.flick_engine.proofs.laws.replies_are_read_back.Goals as goal

pub returns : goal.returns
returns c = reply_read_back
