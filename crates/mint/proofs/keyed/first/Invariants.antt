use Rattle.std.proofs.Common.{◌≡◌, drop}
use Rattle.std.specs.List.{position_from}
use Rattle.std.specs.Ordering.{int_eq}
use Rattle.mint.specs.Keyed.{place_of}
use Rattle.mint.proofs.keyed.first.Given as goal

-- what is sought is sought in the rest
abbrev pub invariant-loop-i : goal.invariant-loop-i
invariant-loop-i g l = place_of l.n l.entries ≡ position_from (λ e. int_eq l.n e.0) l.i (drop l.i l.entries)
