use Rattle.kit_swap.proofs.Moving.{eight_swap}
use Rattle.kit_swap.proofs.swap.eights.Goals as goal

pub returns : goal.returns
returns c = eight_swap
