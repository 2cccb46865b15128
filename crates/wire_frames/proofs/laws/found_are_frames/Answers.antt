use Rattle.wire_frames.proofs.Framing.{found_are_frames}
use Rattle.wire_frames.proofs.laws.found_are_frames.Goals as goal

pub returns : goal.returns
returns c = found_are_frames
