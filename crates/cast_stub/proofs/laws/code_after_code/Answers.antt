use Rattle.cast_stub.proofs.Appending.{steps-append}
use Rattle.cast_stub.proofs.laws.code_after_code.Goals as goal

pub returns : goal.returns
returns c = steps-append
