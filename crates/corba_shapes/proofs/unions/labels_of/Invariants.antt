use Rattle.std.proofs.Common.{◌≡◌, drop}
use Rattle.corba_shapes.specs.Unions.{labels_on}
use Rattle.corba_shapes.proofs.unions.labels_of.Given as goal

abbrev pub invariant-loop-l : goal.invariant-loop-l
invariant-loop-l l =
    labels_on l.scopes l.labels.keys l.tag l.d (record { numbers = l.initial.numbers.keys; default = l.default }) l.list
    ≡ labels_on l.scopes l.labels.keys l.tag l.d (record { numbers = l.numbers.keys; default = l.given })
    (drop l.l-index l.list)
