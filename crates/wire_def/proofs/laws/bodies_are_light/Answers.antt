use Rattle.wire_def.proofs.Encodings.{are_light}
use Rattle.wire_def.proofs.laws.bodies_are_light.Goals as goal

pub returns : goal.returns
returns c = are_light
