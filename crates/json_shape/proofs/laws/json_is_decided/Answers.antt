use Rattle.json_shape.proofs.Deciding.{value_or_none}
use Rattle.json_shape.proofs.laws.json_is_decided.Goals as goal

pub returns : goal.returns
returns c = value_or_none
