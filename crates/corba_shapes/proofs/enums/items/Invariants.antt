use Rattle.std.proofs.Common.{◌≡◌, [], drop}
use Rattle.corba_shapes.specs.Enums.{items_on}
use Rattle.corba_shapes.proofs.enums.items.Given as goal

abbrev pub invariant-loop-item : goal.invariant-loop-item
invariant-loop-item l = items_on l.d l.k l.place (record { names = l.initial.scopes; labels = l.initial.labels.keys; items = [] })
    l.list
    ≡ items_on l.d l.k l.place (record { names = l.scopes; labels = l.labels.keys; items = l.items }) (drop l.item-index l.list)
