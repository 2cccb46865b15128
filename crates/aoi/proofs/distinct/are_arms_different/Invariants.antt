use Rattle.std.proofs.Common.{◌≡◌, map, drop}
use Rattle.aoi.specs.Sound.{are_different}
use Rattle.aoi.proofs.distinct.are_arms_different.Given as goal

abbrev pub invariant-loop-i : goal.invariant-loop-i
invariant-loop-i l = are_different (map (λ a. a.0) l.arms) ≡ are_different (map (λ a. a.0) (drop l.i l.arms))
