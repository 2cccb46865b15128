-- The first line of a text.
use Rattle.std.proofs.Common.{◌≡◌, ℕ, ◌+◌, ◌<◌, ◌≤◌, List, [], ◌∷◌, length, take, drop, Bool, true, false, cond, Some, None, refl, ap, subst, arith}
use Rattle.std.specs.Prelude.{nat_lt, not}
use Rattle.std.specs.List.{position, position_or_len, slice_split, onto_first}
use Rattle.std.proofs.lemmas.List.Splits.{slice_split_first}
use Rattle.std.proofs.lemmas.Bool.{ltb-true, ltb-false}
use Rattle.json_shape.proofs.Options.{one_some}

module _ (p : ℕ → Bool) where
  found_at : (xs : List ℕ) (i : ℕ) (t : Bool) → nat_lt (position_or_len p xs) (length xs) ≡ t
      → cond t (Some (position_or_len p xs)) None ≡ Some i → slice_split p xs ≡ take i xs ∷ slice_split p (drop (i + 1) xs)
  found_at xs i true is e =
      let same : position_or_len p xs ≡ i = one_some (position_or_len p xs) i e in
      let within : position_or_len p xs < length xs = ltb-true (position_or_len p xs) (length xs) is in
      subst (λ n. slice_split p xs ≡ take n xs ∷ slice_split p (drop (n + 1) xs)) same (slice_split_first p xs 0 within)
  found_at xs i false is e = absurd (cc e)

  -- a text whose first element that passes is at a place
  pub cut_at : (xs : List ℕ) (i : ℕ) → position p xs ≡ Some i → slice_split p xs ≡ take i xs ∷ slice_split p (drop (i + 1) xs)
  cut_at xs i e = found_at xs i (nat_lt (position_or_len p xs) (length xs)) refl e

  whole_on : (x : ℕ) (xs : List ℕ) (t : Bool) → (length xs ≤ position_or_len p xs → slice_split p xs ≡ xs ∷ [])
      → length (x ∷ xs) ≤ cond (not t) (1 + position_or_len p xs) 0
      → cond t ([] ∷ slice_split p xs) (onto_first x (slice_split p xs)) ≡ (x ∷ xs) ∷ []
  whole_on x xs true rest h = absurd (omega (arith, h))
  whole_on x xs false rest h = ap (onto_first x) (rest (omega (arith, h)))

  whole_at : (xs : List ℕ) → length xs ≤ position_or_len p xs → slice_split p xs ≡ xs ∷ []
  whole_at [] h = refl
  whole_at (x ∷ xs) h = whole_on x xs (p x) (whole_at xs) h

  found_not : (xs : List ℕ) (t : Bool) → nat_lt (position_or_len p xs) (length xs) ≡ t
      → cond t (Some (position_or_len p xs)) None ≡ None → slice_split p xs ≡ xs ∷ []
  found_not xs true is e = absurd (cc e)
  found_not xs false is e = whole_at xs (ltb-false (position_or_len p xs) (length xs) is)

  -- a text without an element that passes
  pub cut_not : (xs : List ℕ) → position p xs ≡ None → slice_split p xs ≡ xs ∷ []
  cut_not xs e = found_not xs (nat_lt (position_or_len p xs) (length xs)) refl e
