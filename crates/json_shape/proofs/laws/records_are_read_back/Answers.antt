use Rattle.json_shape.proofs.ReadBack.{read_back}
use Rattle.json_shape.proofs.laws.records_are_read_back.Goals as goal

pub returns : goal.returns
returns c = read_back
