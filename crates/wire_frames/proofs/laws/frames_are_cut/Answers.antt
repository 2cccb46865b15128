use Rattle.wire_frames.proofs.Cutting.{frames_are_cut}
use Rattle.wire_frames.proofs.laws.frames_are_cut.Goals as goal

pub returns : goal.returns
returns c = frames_are_cut
