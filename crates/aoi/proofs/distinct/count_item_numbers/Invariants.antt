use Rattle.std.proofs.Common.{◌≡◌, ◌+◌, ◌≤◌, map, drop}
use Rattle.aoi.specs.Sound.{count_different}
use Rattle.aoi.proofs.distinct.count_item_numbers.Given as goal

abbrev pub invariant-loop-i : goal.invariant-loop-i
invariant-loop-i l = (count_different (map (λ i. i.1) l.items) ≡ l.count + count_different (map (λ i. i.1) (drop l.i l.items)))
    × (l.count ≤ l.i)
