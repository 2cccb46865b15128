-- Elements of lists, by their places.
use Rattle.std.proofs.Common.{◌≡◌, ◌<◌, ℕ, zero, suc, List, [], ◌∷◌, length, arith, map, Option, Some, None, option_map, refl, sym, ◌∙◌}
use Rattle.std.specs.Prelude.{slice_get}
use Rattle.std.proofs.lemmas.Option.{slice_get-map}

some_of : {A B : Type 0} (f : A → B) (x : Option A) (y : B) → option_map f x ≡ Some y → (a : A) × (x ≡ Some a) × (f a ≡ y)
some_of f None y e = absurd cc
some_of f (Some a) y e = (a, refl, cc)

-- an element at a place of a mapped list is that of the element there
pub placed : {A B : Type 0} (f : A → B) (xs : List A) (n : ℕ) (y : B) → slice_get (map f xs) n ≡ Some y → (a : A)
    × (slice_get xs n ≡ Some a) × (f a ≡ y)
placed f xs n y e = some_of f (slice_get xs n) y (sym (slice_get-map f xs n) ∙ e)

-- a place of a list has an item
pub item_at : {A : Type 0} (xs : List A) (n : ℕ) → n < length xs → (x : A) × (slice_get xs n ≡ Some x)
item_at [] n h = absurd (omega (arith, h))
item_at (x ∷ xs) zero h = (x, refl)
item_at (x ∷ xs) (suc n) h = item_at xs n (omega (arith, h))
