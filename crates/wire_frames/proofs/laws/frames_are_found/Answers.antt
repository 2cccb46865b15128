use Rattle.wire_frames.proofs.Framing.{frames_are_found}
use Rattle.wire_frames.proofs.laws.frames_are_found.Goals as goal

pub returns : goal.returns
returns c = frames_are_found
