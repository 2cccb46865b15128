use Rattle.std.proofs.Common.{◌≡◌, [], drop}
use Rattle.corba_shapes.specs.Fields.{lengths_on}
use Rattle.corba_shapes.proofs.fields.lengths.Given as goal

abbrev pub invariant-loop-dimension : goal.invariant-loop-dimension
invariant-loop-dimension l = lengths_on l.scopes l.d [] l.list
    ≡ lengths_on l.scopes l.d l.counts (drop l.dimension-index l.list)
