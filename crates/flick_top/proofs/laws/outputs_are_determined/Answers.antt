use Rattle.flick_top.proofs.Outputs.{one_output}
use Rattle.flick_top.proofs.laws.outputs_are_determined.Goals as goal

pub returns : goal.returns
returns c = one_output
