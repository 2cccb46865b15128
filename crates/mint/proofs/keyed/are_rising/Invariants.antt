use Rattle.std.proofs.Common.{map, take}
use Rattle.mint.specs.Keyed.{Rise}
use Rattle.mint.proofs.keyed.are_rising.Given as goal

-- the numbers so far rise
abbrev pub invariant-loop-i : goal.invariant-loop-i
invariant-loop-i g l = Rise (map (λ e. e.0) (take l.i l.entries))
