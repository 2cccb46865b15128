-- Where nothing is aligned there is no gap.
use Rattle.std.proofs.lemmas.Int.{to_z-of_z}
use Rattle.wire_def.proofs.DescribedGrammar.{no_gap}

pub ruleset gaps = (no_gap)

pub ruleset widths = (to_z-of_z)
