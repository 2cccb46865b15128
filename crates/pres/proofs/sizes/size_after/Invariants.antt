use Rattle.std.proofs.Common.{◌≡◌, ◌-◌, length, drop}
use Rattle.pres.specs.Sizes.{after_at}
use Rattle.pres.proofs.sizes.size_after.Given as goal

-- the last arms are counted
abbrev pub invariant-loop-i : goal.invariant-loop-i
invariant-loop-i l = l.size ≡ after_at l.sizes (drop (length l.list - l.i) l.list) l.fn.other
