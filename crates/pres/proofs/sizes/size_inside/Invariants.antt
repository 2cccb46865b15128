use Rattle.std.proofs.Common.{◌≡◌, ◌-◌, length, drop}
use Rattle.pres.specs.Sizes.{inside_at}
use Rattle.pres.proofs.sizes.size_inside.Given as goal

-- the last nodes are counted
abbrev pub invariant-loop-i : goal.invariant-loop-i
invariant-loop-i l = l.size ≡ inside_at l.sizes (drop (length l.list - l.i) l.list)
