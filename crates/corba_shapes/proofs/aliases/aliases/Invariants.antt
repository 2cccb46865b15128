use Rattle.std.proofs.Common.{◌≡◌, drop}
use Rattle.corba_shapes.specs.Held.{state}
use Rattle.corba_shapes.specs.Aliases.{aliases_on}
use Rattle.corba_shapes.proofs.aliases.aliases.Given as goal

abbrev pub invariant-loop-declarator : goal.invariant-loop-declarator
invariant-loop-declarator l = aliases_on l.d l.form (state l.initial.r) l.list
    ≡ aliases_on l.d l.form (state l.r) (drop l.declarator-index l.list)
