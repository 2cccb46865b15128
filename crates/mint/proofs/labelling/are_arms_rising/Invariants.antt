use Rattle.std.proofs.Common.{◌≡◌, None, drop, map}
use Rattle.mint.specs.Sound.{rise_from}
use Rattle.mint.proofs.labelling.are_arms_rising.Given as goal

abbrev pub invariant-loop-n : goal.invariant-loop-n
invariant-loop-n l = rise_from None (map (λ a. a.0) l.arms) ≡ rise_from l.last (map (λ a. a.0) (drop l.n-index l.arms))
