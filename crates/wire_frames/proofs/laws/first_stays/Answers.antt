use Rattle.wire_frames.proofs.Cutting.{first_message_stays}
use Rattle.wire_frames.proofs.laws.first_stays.Goals as goal

pub returns : goal.returns
returns c = first_message_stays
