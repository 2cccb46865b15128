use Rattle.std.proofs.Common.{◌≡◌, ◌++◌, map, drop}
use Rattle.aoi.specs.Plain.{plain_operation}
use Rattle.front_corba.specs.Held.{plain_offer}
use Rattle.front_corba.specs.Resolved.{operations_of}
use Rattle.front_corba.proofs.resolving.operations.Given as goal

abbrev pub invariant-loop-offer : goal.invariant-loop-offer
invariant-loop-offer l = map plain_operation l.out ++ operations_of (map plain_offer (drop l.offer-index l.ops))
    ≡ operations_of (map plain_offer l.ops)
