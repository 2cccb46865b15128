use Rattle.wire_frames.proofs.Cutting.{pieces_are_cut}
use Rattle.wire_frames.proofs.laws.pieces_are_cut.Goals as goal

pub returns : goal.returns
returns c = pieces_are_cut
