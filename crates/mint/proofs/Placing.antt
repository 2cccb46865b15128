-- What the entry of a number is asked for, by the number's place, by induction on the entries.
use Rattle.std.proofs.Common.{◌≡◌, Bool, true, false, cond, ℕ, zero, suc, ◌+◌, ◌<◌, ℤ, List, [], ◌∷◌, length, Option, None, Some, get_or, refl, ap, sym, ◌∙◌, arith}
use Rattle.std.specs.List.{position_from}
use Rattle.std.specs.Ordering.{int_eq}
use Rattle.mint.specs.Keyed.{place_of}

-- what the first entry of a number is asked for: it is what each entry before it passes on
pub record Asks {X R : Type 0} (n : ℤ) (ask : List (ℤ × X) → R) (of : ℤ × X → R) (last : R) : Type 0 where
  pub none : ask [] ≡ last
  pub step : (e : ℤ × X) (es : List (ℤ × X)) → ask (e ∷ es) ≡ cond (int_eq n e.0) (of e) (ask es)

-- a place in a list whose places are counted from a number
record At {X R : Type 0} (ask : List (ℤ × X) → R) (of : ℤ × X → R) (es : List (ℤ × X)) (from i : ℕ) : Type 0 where
  k : ℕ
  is : i ≡ from + k
  there : k < length es
  asked : (d : ℤ × X) → ask es ≡ of (get_or es k d)

placed_from : {X R : Type 0} (n : ℤ) (ask : List (ℤ × X) → R) (of : ℤ × X → R) (last : R) → Asks n ask of last
    → (es : List (ℤ × X)) (from i : ℕ) → position_from (λ e. int_eq n e.0) from es ≡ Some i → At ask of es from i
placed_from n ask of last h [] from i e = absurd cc
placed_from {X} n ask of last h (x ∷ es) from i e = by (int_eq n x.0) refl (placed_from n ask of last h es (from + 1) i) where
  by : (t : Bool) → int_eq n x.0 ≡ t → (position_from (λ e. int_eq n e.0) (from + 1) es ≡ Some i → At ask of es (from + 1) i)
      → At ask of (x ∷ es) from i
  by true t more =
      let here : Some from ≡ Some i = rw t at e in
      let same : from ≡ i = cc in
      record { k = 0; is = omega (arith, same); there = omega arith; asked = λ d. rw (h.step x es, t) refl }
  by false t more =
      let rest : At ask of es (from + 1) i = more (rw t at e) in
      record {
        k = suc rest.k;
        is = omega (arith, rest.is);
        there = omega (arith, rest.there);
        asked = λ d. rw (h.step x es, t) (rest.asked d);
      }

-- the number is at a place
pub placed : {X R : Type 0} (n : ℤ) (ask : List (ℤ × X) → R) (of : ℤ × X → R) (last : R) → Asks n ask of last
    → (es : List (ℤ × X)) (i : ℕ) (d : ℤ × X) → Some i ≡ place_of n es → ask es ≡ of (get_or es i d)
placed n ask of last h es i d e =
    let at : At ask of es 0 i = placed_from n ask of last h es 0 i (sym e) in
    let same : i ≡ at.k = omega (arith, at.is) in
    rw same (at.asked d)

-- the number is nowhere
missed_from : {X R : Type 0} (n : ℤ) (ask : List (ℤ × X) → R) (of : ℤ × X → R) (last : R) → Asks n ask of last
    → (es : List (ℤ × X)) (from : ℕ) → position_from (λ e. int_eq n e.0) from es ≡ None → ask es ≡ last
missed_from n ask of last h [] from e = h.none
missed_from {X} n ask of last h (x ∷ es) from e = by (int_eq n x.0) refl (missed_from n ask of last h es (from + 1)) where
  by : (t : Bool) → int_eq n x.0 ≡ t → (position_from (λ e. int_eq n e.0) (from + 1) es ≡ None → ask es ≡ last) → ask (x ∷ es) ≡ last
  by true t more = let here : Some from ≡ None = rw t at e in absurd cc
  by false t more = rw (h.step x es, t) (more (rw t at e))

pub missed : {X R : Type 0} (n : ℤ) (ask : List (ℤ × X) → R) (of : ℤ × X → R) (last : R) → Asks n ask of last
    → (es : List (ℤ × X)) → None ≡ place_of n es → ask es ≡ last
missed n ask of last h es e = missed_from n ask of last h es 0 (sym e)
