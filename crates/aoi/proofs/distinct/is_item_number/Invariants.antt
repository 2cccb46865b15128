use Rattle.std.proofs.Common.{◌≡◌, map, drop}
use Rattle.std.specs.List.{list_any}
use Rattle.std.specs.Ordering.{int_eq}
use Rattle.aoi.proofs.distinct.is_item_number.Given as goal

abbrev pub invariant-loop-m : goal.invariant-loop-m
invariant-loop-m l = list_any (λ m. int_eq m l.n) (map (λ i. i.1) l.items)
    ≡ list_any (λ m. int_eq m l.n) (map (λ i. i.1) (drop l.m-index l.items))
