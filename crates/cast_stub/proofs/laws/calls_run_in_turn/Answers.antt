use Rattle.cast_stub.proofs.Entering.{entered-append}
use Rattle.cast_stub.proofs.laws.calls_run_in_turn.Goals as goal

pub returns : goal.returns
returns c = entered-append
