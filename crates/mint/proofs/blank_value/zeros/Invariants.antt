use Rattle.std.proofs.Common.{◌≡◌, pos, replicate}
use Rattle.mint.proofs.blank_value.zeros.Given as goal

abbrev pub invariant-loop : goal.invariant-loop
invariant-loop l = l.row ≡ record { kind = l.fn.kind; numbers = replicate l.counter (pos 0) }
