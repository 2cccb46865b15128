use Rattle.std.proofs.Common.{◌≡◌, map, drop}
use Rattle.std.specs.List.{list_any}
use Rattle.std.specs.Str.{bytes_eq}
use Rattle.aoi.proofs.distinct.is_item.Given as goal

abbrev pub invariant-loop-other : goal.invariant-loop-other
invariant-loop-other l = list_any (λ m. bytes_eq m l.name) (map (λ i. i.0) l.items)
    ≡ list_any (λ m. bytes_eq m l.name) (map (λ i. i.0) (drop l.other-index l.items))
