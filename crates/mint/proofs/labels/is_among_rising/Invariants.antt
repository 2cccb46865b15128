use Rattle.std.proofs.Common.{◌-◌}
use Rattle.mint.proofs.Halving.{Halved}
use Rattle.mint.proofs.labels.is_among_rising.Given as goal

abbrev pub decreases-loop-low : goal.decreases-loop-low
decreases-loop-low l = l.high - l.low

-- what is before is below the number, and what follows is above it
abbrev pub invariant-loop-low : goal.invariant-loop-low
invariant-loop-low l = Halved l.labels l.n l.low l.high
