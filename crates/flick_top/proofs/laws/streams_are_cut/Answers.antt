use Rattle.flick_top.proofs.Parted.{streams_cut}
use Rattle.flick_top.proofs.laws.streams_are_cut.Goals as goal

pub returns : goal.returns
returns c = streams_cut
