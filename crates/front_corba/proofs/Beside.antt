-- The operations of a base beside those of the bases before it, by induction on the base's.
use Rattle.std.proofs.Common.{◌≡◌, ◌<◌, List, [], ◌∷◌, None, arith, length, map, refl}
use Rattle.front_corba.specs.declared.state.Offer.{Offer}
use Rattle.front_corba.specs.State.{PlainOffer}
use Rattle.front_corba.specs.Held.{plain_offer}
use Rattle.front_corba.specs.Bases.{base_clash}

-- beside none each may be
none_clashes : (base : List PlainOffer) → None ≡ base_clash [] base
none_clashes [] = refl
none_clashes (o ∷ os) = none_clashes os

-- beside operations of which there are none
pub first_base : (ops : List Offer) (base : List PlainOffer) → length ops < 1 → None ≡ base_clash (map plain_offer ops) base
first_base [] base few = none_clashes base
first_base (o ∷ ops) base few = absurd (omega (arith, few))
