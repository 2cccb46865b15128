use Rattle.std.proofs.Common.{◌≡◌, None, drop}
use Rattle.mint.specs.Sound.{rise_from}
use Rattle.mint.proofs.labelling.are_rising.Given as goal

abbrev pub invariant-loop-label : goal.invariant-loop-label
invariant-loop-label l = rise_from None l.labels ≡ rise_from l.last (drop l.label-index l.labels)
