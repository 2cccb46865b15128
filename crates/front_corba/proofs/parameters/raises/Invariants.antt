use Rattle.std.proofs.Common.{◌≡◌, [], map, drop}
use Rattle.aoi.specs.Plain.{plain_raise}
use Rattle.front_corba.specs.Parameters.{raises_on}
use Rattle.front_corba.proofs.parameters.raises.Given as goal

abbrev pub invariant-loop-reference : goal.invariant-loop-reference
invariant-loop-reference l = raises_on l.scopes (map plain_raise l.exceptions) l.d [] l.list
    ≡ raises_on l.scopes (map plain_raise l.exceptions) l.d (map plain_raise l.raises) (drop l.reference-index l.list)
