use Rattle.cast_stub.proofs.Entering.{entered-unensured}
use Rattle.cast_stub.proofs.laws.ensures_run_no_call.Goals as goal

pub returns : goal.returns
returns c = entered-unensured
