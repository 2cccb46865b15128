use Rattle.cast_stub.proofs.Folding.{costs-append}
use Rattle.cast_stub.proofs.laws.costs_add_up.Goals as goal

pub returns : goal.returns
returns c = costs-append
