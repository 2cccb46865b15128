use Rattle.std.proofs.Common.{◌-◌, map}
use Rattle.mint.proofs.Halving.{Halved}
use Rattle.mint.proofs.keyed.halved.Given as goal

abbrev pub decreases-loop-low : goal.decreases-loop-low
decreases-loop-low g l = l.high - l.low

-- what is before is below the number, and what follows is above it
abbrev pub invariant-loop-low : goal.invariant-loop-low
invariant-loop-low g l = Halved (map (λ e. e.0) l.entries) l.n l.low l.high
