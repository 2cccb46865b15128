use Rattle.std.proofs.Common.{◌≡◌, drop}
use Rattle.std.specs.List.{list_any}
use Rattle.std.specs.Ordering.{int_eq}
use Rattle.aoi.proofs.soundness.is_item.Given as goal

abbrev pub invariant-loop-m : goal.invariant-loop-m
invariant-loop-m l = list_any (λ i. int_eq i.1 l.n) l.items ≡ list_any (λ i. int_eq i.1 l.n) (drop l.m-index l.items)
