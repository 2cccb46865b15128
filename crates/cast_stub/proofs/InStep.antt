-- Lists in step, one member more of each, by induction on the lists.
use Rattle.std.proofs.Common.{◌≡◌, ℕ, zero, suc, ◌+◌, ◌<◌, ◌≤◌, List, [], ◌∷◌, ◌++◌, length, get_or, refl, sym, ap, ◌∙◌, subst, arith}
use Rattle.std.proofs.Math.ListN.{take}
use Rattle.std.proofs.lemmas.List.{take_more, take_all}
use Rattle.cast_stub.specs.InStep.{InStep, AllInStep}

module _ {A B : Type 0} (R : A → B → Type 0) where
  pub as-many : (xs : List A) (ys : List B) → InStep R xs ys → length xs ≡ length ys
  as-many [] [] h = refl
  as-many [] (y ∷ ys) h = absurd h
  as-many (x ∷ xs) [] h = absurd h
  as-many (x ∷ xs) (y ∷ ys) h = ap suc (as-many xs ys h.1)

  -- the members at a place
  pub one-has : (xs : List A) (ys : List B) (i : ℕ) (d : A) (e : B) → i < length ys → InStep R xs ys → R (get_or xs i d) (get_or ys i e)
  one-has [] [] i d e lt h = absurd (omega (arith, lt))
  one-has [] (y ∷ ys) i d e lt h = absurd h
  one-has (x ∷ xs) [] i d e lt h = absurd h
  one-has (x ∷ xs) (y ∷ ys) zero d e lt h = h.0
  one-has (x ∷ xs) (y ∷ ys) (suc i) d e lt h = one-has xs ys i d e (omega (arith, lt)) h.1

  pub this-has : (xs : List A) (ys : List B) (i : ℕ) (d : A) (y : B) → i < length ys → y ≡ get_or ys i y → InStep R xs ys
      → R (get_or xs i d) y
  this-has xs ys i d y lt is h = subst (R (get_or xs i d)) (sym is) (one-has xs ys i d y lt h)

module _ {A B C : Type 0} (R : A → B → C → Type 0) where
  snoc-has : (xs : List A) (ys : List B) (zs : List C) (x : A) (y : B) (z : C) → AllInStep R xs ys zs → R x y z
      → AllInStep R (xs ++ x ∷ []) (ys ++ y ∷ []) (zs ++ z ∷ [])
  snoc-has [] [] [] x y z h k = (k, tt)
  snoc-has [] [] (c ∷ zs) x y z h k = absurd h
  snoc-has [] (b ∷ ys) zs x y z h k = absurd h
  snoc-has (a ∷ xs) [] zs x y z h k = absurd h
  snoc-has (a ∷ xs) (b ∷ ys) [] x y z h k = absurd h
  snoc-has (a ∷ xs) (b ∷ ys) (c ∷ zs) x y z h k = (h.0, snoc-has xs ys zs x y z h.1 k)

  -- one member more, where the first two lists are as many
  pub more-have : (xs : List A) (ys : List B) (zs new : List C) (i : ℕ) (d : A) (y : B) (z : C) → length xs ≡ length ys → i < length ys
      → y ≡ get_or ys i y → AllInStep R (take i xs) (take i ys) zs → R (get_or xs i d) y z → new ≡ zs ++ z ∷ []
      → AllInStep R (take (i + 1) xs) (take (i + 1) ys) new
  more-have xs ys zs new i d y z many lt' is h k made =
      let x = get_or xs i d in
      let lt : i < length xs = omega (arith, lt', many) in
      let more : take (i + 1) xs ≡ take i xs ++ x ∷ [] = take_more xs i d lt in
      let more' : take (i + 1) ys ≡ take i ys ++ y ∷ [] = take_more ys i y lt' ∙ ap (λ (b : B). take i ys ++ b ∷ []) (sym is) in
      subst (λ (l : List A). AllInStep R l (take (i + 1) ys) new) (sym more)
      (subst (λ (l : List B). AllInStep R (take i xs ++ x ∷ []) l new) (sym more')
      (subst (AllInStep R (take i xs ++ x ∷ []) (take i ys ++ y ∷ [])) (sym made)
      (snoc-has (take i xs) (take i ys) zs x y z h k)))

  pub all-have : (xs : List A) (ys : List B) (zs : List C) (i : ℕ) → length xs ≡ length ys → length ys ≤ i
      → AllInStep R (take i xs) (take i ys) zs
      → AllInStep R xs ys zs
  all-have xs ys zs i many most h =
      let most' : length xs ≤ i = omega (arith, most, many) in
      subst (λ (l : List A). AllInStep R l ys zs) (take_all i xs most')
      (subst (λ (l : List B). AllInStep R (take i xs) l zs) (take_all i ys most) h)
