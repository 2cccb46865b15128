use Rattle.std.proofs.Common.{◌≡◌, map, drop}
use Rattle.aoi.specs.Sound.{are_distinct}
use Rattle.aoi.proofs.distinct.are_items_distinct.Given as goal

abbrev pub invariant-loop-i : goal.invariant-loop-i
invariant-loop-i l = are_distinct (map (λ i. i.0) l.items) ≡ are_distinct (map (λ i. i.0) (drop l.i l.items))
