use Rattle.cast_stub.proofs.Folding.{wrote-append}
use Rattle.cast_stub.proofs.laws.steps_write_in_turn.Goals as goal

pub returns : goal.returns
returns c = wrote-append
