use Rattle.std.proofs.Common.{◌≡◌, ◌+◌, drop}
use Rattle.mint.specs.Values.{all_seen, weights}
use Rattle.mint.proofs.fits.+weigh.Given as goal

-- what is left weighs what it weighs of the whole
abbrev pub invariant-take_weights-loop-value : goal.invariant-take_weights-loop-value
invariant-take_weights-loop-value l = l.rest + weights (all_seen l.value-items)
    ≡ l.left + weights (all_seen (drop l.value-index l.value-items))
