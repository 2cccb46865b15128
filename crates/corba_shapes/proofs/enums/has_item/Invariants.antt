use Rattle.std.proofs.Common.{◌≡◌, map, drop}
use Rattle.idl_names.specs.Names.{has}
use Rattle.corba_shapes.proofs.enums.has_item.Given as goal

abbrev pub invariant-loop-item : goal.invariant-loop-item
invariant-loop-item l = has l.name (map (λ i. i.name) l.items) ≡ has l.name (map (λ i. i.name) (drop l.item-index l.items))
