use Rattle.std.proofs.Common.{◌≡◌, map, drop}
use Rattle.front_corba.specs.Held.{plain_offering, heirs}
use Rattle.front_corba.specs.Bases.{bases_on}
use Rattle.front_corba.proofs.bases.bases.Given as goal

abbrev pub invariant-loop-reference : goal.invariant-loop-reference
invariant-loop-reference l =
    bases_on l.d l.name (map plain_offering l.interfaces) (heirs l.initial.scopes l.initial.heir) l.list
    ≡ bases_on l.d l.name (map plain_offering l.interfaces) (heirs l.scopes l.heir) (drop l.reference-index l.list)
