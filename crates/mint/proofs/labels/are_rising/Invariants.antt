use Rattle.std.proofs.Common.{take}
use Rattle.mint.specs.Keyed.{Rise}
use Rattle.mint.proofs.labels.are_rising.Given as goal

-- the numbers so far rise
abbrev pub invariant-loop-i : goal.invariant-loop-i
invariant-loop-i l = Rise (take l.i l.labels)
