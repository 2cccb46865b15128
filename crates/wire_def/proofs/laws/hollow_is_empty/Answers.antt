use Rattle.wire_def.proofs.Hollow.{hollow_is_empty}
use Rattle.wire_def.proofs.laws.hollow_is_empty.Goals as goal

pub returns : goal.returns
returns c = hollow_is_empty
