-- Runs of octets, each reversed: one, one after the other, and swapped twice, by induction on their number.
use Rattle.std.proofs.Common.{◌≡◌, ◌<◌, ℕ, zero, suc, ◌+◌, ◌*◌, ◌/◌, ◌%◌, List, [], ◌∷◌, ◌++◌, length, take, drop, reverse, inl, inr, refl, sym, ap, ◌∙◌, subst, arith, add-one, append_assoc, append-nil, length-append, length-take, length-drop}
use Rattle.std.proofs.Math.Nat.{add-div_left}
use Rattle.std.proofs.lemmas.List.{take_at, drop_at, length-reverse, reverse-reverse, take-append-drop}
use Rattle.std.proofs.lemmas.Nat.{div-add-mod'}
use Rattle.kit_swap.specs.Swapped.{swapped, IsSwapWidth}

-- the first run
pub swapped-first : (w : ℕ) (a o : List ℕ) → 0 < w → length a ≡ w → swapped w (a ++ o) ≡ reverse a ++ swapped w o
unfolding swapped
swapped-first w a o some len =
    let many : length (a ++ o) / w ≡ suc (length o / w) =
    ap (λ z. z / w) (length-append a o ∙ ap (λ z. z + length o) len) ∙ add-div_left (length o) some ∙ add-one (length o / w) in
    rw (many, take_at a o w len, drop_at a o w len) refl

-- a fact of each width, from the same of the three
pub at_width : (P : ℕ → Type 0) → P 2 → P 4 → P 8 → (w : ℕ) → IsSwapWidth w → P w
at_width P two four eight w is =
    elim is [ inl e ↦ subst P (sym e) two | inr more ↦ elim more [ inl e ↦ subst P (sym e) four | inr e ↦ subst P (sym e) eight ] ]

pub swapped-none : (w : ℕ) → IsSwapWidth w → swapped w [] ≡ []
unfolding swapped
swapped-none w is = at_width (λ n. swapped n [] ≡ []) refl refl refl w is

pub swaps_some : (w : ℕ) → IsSwapWidth w → 0 < w
swaps_some w is = at_width (λ n. 0 < n) (omega arith) (omega arith) (omega arith) w is

-- one run
pub swapped-one : (w : ℕ) (a : List ℕ) → IsSwapWidth w → length a ≡ w → swapped w a ≡ reverse a
swapped-one w a is len =
    ap (swapped w) (sym (append-nil a)) ∙ swapped-first w a [] (swaps_some w is) len
    ∙ ap (λ z. reverse a ++ z) (swapped-none w is) ∙ append-nil (reverse a)

-- how long the first run and the others are
pub first_run : (w n : ℕ) (o : List ℕ) → length o ≡ suc n * w → (length (take w o) ≡ w) × (length (drop w o) ≡ n * w)
first_run w n o len =
    let long : w + n * w ≡ suc n * w = omega arith in
    (omega (arith, length-take w o, long, len), omega (arith, length-drop w o, long, len))

-- n runs, and others after them
after : (w n : ℕ) (a o : List ℕ) → IsSwapWidth w → length a ≡ n * w → swapped w (a ++ o) ≡ swapped w a ++ swapped w o
after w zero [] o is len = ap (λ z. z ++ swapped w o) (sym (swapped-none w is))
after w zero (x ∷ a) o is len = absurd (omega arith)
after w (suc n) a o is len =
    let f = take w a in
    let r = drop w a in
    let s = first_run w n a len in
    let some = swaps_some w is in
    let whole : f ++ r ≡ a = take-append-drop w a in
    ap (λ z. swapped w (z ++ o)) (sym whole) ∙ ap (swapped w) (append_assoc f r o) ∙ swapped-first w f (r ++ o) some s.0 ∙ ap (λ z.
    reverse f ++ z) (after w n r o is s.1)
    ∙ sym (append_assoc (reverse f) (swapped w r) (swapped w o))
    ∙ ap (λ z. z ++ swapped w o) (sym (swapped-first w f r some s.0) ∙ ap (swapped w) whole)

pub whole_runs : (w l : ℕ) → l % w ≡ 0 → l ≡ l / w * w
whole_runs w l h = sym (omega (arith, div-add-mod' l w))

pub swapped-append : (w : ℕ) (a o : List ℕ) → IsSwapWidth w → length a % w ≡ 0 → swapped w (a ++ o) ≡ swapped w a ++ swapped w o
swapped-append w a o is whole = after w (length a / w) a o is (whole_runs w (length a) whole)

many : (w n : ℕ) (o : List ℕ) → IsSwapWidth w → length o ≡ n * w → length (swapped w o) ≡ length o
many w zero [] is len = ap length (swapped-none w is)
many w zero (x ∷ o) is len = absurd (omega arith)
many w (suc n) o is len =
    let long : w + n * w ≡ suc n * w = omega arith in
    let f = take w o in
    let r = drop w o in
    let s = first_run w n o len in
    ap (λ z.
    length (swapped w z)) (sym (take-append-drop w o)) ∙ ap length (swapped-first w f r (swaps_some w is) s.0)
    ∙ length-append (reverse f) (swapped w r)
    ∙ omega (arith, length-reverse f, s.0, s.1, many w n r is s.1, long, len)

pub length-swapped : (w : ℕ) (o : List ℕ) → IsSwapWidth w → length o % w ≡ 0 → length (swapped w o) ≡ length o
length-swapped w o is whole = many w (length o / w) o is (whole_runs w (length o) whole)

twice : (w n : ℕ) (o : List ℕ) → IsSwapWidth w → length o ≡ n * w → swapped w (swapped w o) ≡ o
twice w zero [] is len = ap (swapped w) (swapped-none w is) ∙ swapped-none w is
twice w zero (x ∷ o) is len = absurd (omega arith)
twice w (suc n) o is len =
    let f = take w o in
    let r = drop w o in
    let s = first_run w n o len in
    let some = swaps_some w is in
    ap (λ z.
    swapped w (swapped w z)) (sym (take-append-drop w o)) ∙ ap (swapped w) (swapped-first w f r some s.0)
    ∙ swapped-first w (reverse f) (swapped w r) some (length-reverse f ∙ s.0)
    ∙ rw (reverse-reverse f, twice w n r is s.1) (take-append-drop w o)

-- a row that is swapped twice
pub swapped-swapped : (w : ℕ) (o : List ℕ) → IsSwapWidth w → length o % w ≡ 0 → swapped w (swapped w o) ≡ o
swapped-swapped w o is whole = twice w (length o / w) o is (whole_runs w (length o) whole)

-- octets by themselves
pub swapped-octets : (o : List ℕ) → swapped 1 o ≡ o
unfolding swapped
swapped-octets [] = refl
swapped-octets (b ∷ o) = swapped-first 1 (b ∷ []) o (omega arith) refl ∙ ap (λ z. b ∷ z) (swapped-octets o)
