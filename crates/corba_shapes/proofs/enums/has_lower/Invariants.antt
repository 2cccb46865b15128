use Rattle.std.proofs.Common.{◌≡◌, map, drop}
use Rattle.idl_names.specs.Names.{has}
use Rattle.corba_scopes.specs.Names.{lower}
use Rattle.corba_shapes.proofs.enums.has_lower.Given as goal

abbrev pub invariant-loop-item : goal.invariant-loop-item
invariant-loop-item l = has l.small (map (λ i. lower i.name) l.items) ≡ has l.small (map (λ i. lower i.name) (drop l.item-index l.items))
