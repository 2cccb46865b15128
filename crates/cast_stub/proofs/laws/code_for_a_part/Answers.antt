use Rattle.cast_stub.proofs.Rebasing.{steps-rebase}
use Rattle.cast_stub.proofs.laws.code_for_a_part.Goals as goal

pub returns : goal.returns
returns c = steps-rebase
