use Rattle.std.proofs.Common.{◌≡◌, map, drop}
use Rattle.front_corba.specs.Held.{plain_offer}
use Rattle.front_corba.specs.Bases.{inherited_on}
use Rattle.front_corba.proofs.bases.inherit.Given as goal

abbrev pub invariant-loop-offer : goal.invariant-loop-offer
invariant-loop-offer l = inherited_on l.d (map plain_offer l.initial.ops) (map plain_offer l.base)
    ≡ inherited_on l.d (map plain_offer l.ops) (map plain_offer (drop l.offer-index l.base))
