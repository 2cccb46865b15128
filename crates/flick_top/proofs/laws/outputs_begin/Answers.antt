use Rattle.flick_top.proofs.Opening as opening
use Rattle.flick_top.proofs.laws.outputs_begin.Goals as goal

pub returns : goal.returns
returns c = opening.outputs_begin
