use Rattle.wire_def.proofs.Encodings.{decided}
use Rattle.wire_def.proofs.laws.spelled_or_stopped.Goals as goal

pub returns : goal.returns
returns c = decided
