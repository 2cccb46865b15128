use Rattle.flick_top.proofs.Ended.{lines_cut}
use Rattle.flick_top.proofs.laws.lines_are_cut.Goals as goal

pub returns : goal.returns
returns c = lines_cut
