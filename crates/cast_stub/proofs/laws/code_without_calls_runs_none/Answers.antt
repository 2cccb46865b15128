use Rattle.cast_stub.proofs.Entering.{entered-none}
use Rattle.cast_stub.proofs.laws.code_without_calls_runs_none.Goals as goal

pub returns : goal.returns
returns c = entered-none
