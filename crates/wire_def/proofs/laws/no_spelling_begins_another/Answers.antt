use Rattle.wire_def.proofs.Encodings.{none_begins}
use Rattle.wire_def.proofs.laws.no_spelling_begins_another.Goals as goal

pub returns : goal.returns
returns c = none_begins
