-- Elements of lists, by their places, as plain trees, by induction on the list.
use Rattle.std.proofs.Common.{◌≡◌, ℕ, zero, suc, List, [], ◌∷◌, map, refl}
use Rattle.std.specs.Prelude.{slice_get}
use Rattle.std.specs.Option.{option_map}
use Rattle.aoi.specs.declared.interfaces.Raise.{Raise}
use Rattle.aoi.specs.Plain.{plain_raise}
use Rattle.front_corba.specs.declared.state.Offering.{Offering}
use Rattle.front_corba.specs.Held.{plain_offering}

got : {A B : Type 0} (f : A → B) (xs : List A) (k : ℕ) → slice_get (map f xs) k ≡ option_map f (slice_get xs k)
got f [] k = refl
got f (x ∷ xs) zero = refl
got f (x ∷ xs) (suc k) = got f xs k

pub offering_got : (xs : List Offering) (k : ℕ) → slice_get (map plain_offering xs) k ≡ option_map plain_offering (slice_get xs k)
offering_got xs k = got plain_offering xs k

pub raise_got : (xs : List Raise) (k : ℕ) → slice_get (map plain_raise xs) k ≡ option_map plain_raise (slice_get xs k)
raise_got xs k = got plain_raise xs k
