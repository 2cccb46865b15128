use Rattle.kit_swap.proofs.Moving.{two_swap}
use Rattle.kit_swap.proofs.swap.pairs.Goals as goal

pub returns : goal.returns
returns c = two_swap
