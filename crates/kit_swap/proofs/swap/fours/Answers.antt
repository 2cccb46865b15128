use Rattle.kit_swap.proofs.Moving.{four_swap}
use Rattle.kit_swap.proofs.swap.fours.Goals as goal

pub returns : goal.returns
returns c = four_swap
