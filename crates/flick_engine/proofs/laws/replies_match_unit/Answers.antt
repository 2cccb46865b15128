use Rattle.stub_codes.proofs.ReplyTypes.{are_the_replies}
use Rattle.flick_engine.proofs.laws.replies_match_unit.Goals as goal

pub returns : goal.returns
returns c = are_the_replies
