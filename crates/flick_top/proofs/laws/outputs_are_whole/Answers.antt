use Rattle.flick_top.proofs.Completing.{all_whole}
use Rattle.flick_top.proofs.laws.outputs_are_whole.Goals as goal

pub returns : goal.returns
returns c = all_whole
