use Rattle.wire_frames.proofs.Cutting.{faults_stay}
use Rattle.wire_frames.proofs.laws.faults_stay.Goals as goal

pub returns : goal.returns
returns c = faults_stay
