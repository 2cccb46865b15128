use Rattle.wire_frames.proofs.Cutting.{cuts_go_on}
use Rattle.wire_frames.proofs.laws.cuts_go_on.Goals as goal

pub returns : goal.returns
returns c = cuts_go_on
