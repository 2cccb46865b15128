use Rattle.hoist.proofs.Taken.{framed_taken}
use Rattle.hoist.proofs.laws.framed_code_is_taken.Goals as goal

pub returns : goal.returns
returns c = framed_taken
