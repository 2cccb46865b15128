-- What is drawn: numbers in range, lengths that are allowed, and one of several.
use Rattle.std.proofs.Common.{◌≡◌, ℕ, zero, suc, ◌+◌, ◌-◌, ◌*◌, ◌/◌, ◌%◌, ◌^◌, ◌<◌, ◌≤◌, ◌⊎◌, inl, inr, min, Bool, true, false, ◌||◌, ℤ, pos, negsuc, ◌-ℤ◌, List, [], ◌∷◌, length, map, get_or, refl, ap, ◌∙◌, arith, lt-ltb, mod-lt, int_eq, None, Some, slice_get}
use Rattle.std.specs.List.{list_all, list_any}
use Rattle.std.proofs.lemmas.Bool.{cases_lt, and_parts}
use Rattle.std.proofs.lemmas.Bool.Decides.{Decides-int_eq}
use Rattle.std.proofs.lemmas.Int.{ints}
use Rattle.mint.specs.declared.kind.Kind.{Kind}
use Rattle.mint.specs.declared.kind.Kind.TheVariants as kind
use Rattle.mint.specs.declared.kind.Count.{Count}
use Rattle.mint.specs.declared.kind.Count.TheVariants.{Exactly, AtMost, Any}
use Rattle.mint.specs.Kinds.{above, under, in_range, is_letter, Allows}
use Rattle.case_make.specs.Draws.{Drawn, next, below, several, span, drawn_number, drawn_one, drawn_length, drawn_letter}

pub below-lt : (many s : ℕ) → 0 < many → below many s < many
unfolding below
below-lt many s h = mod-lt (next s / 2 ^ 33) h

-- ---- numbers

under_zero : (n u : ℕ) → n < u → pos n -ℤ pos u ≡ negsuc (u - n - 1)
under_zero n u h = omega (arith, ints)

from_zero : (n u : ℕ) → u ≤ n → pos n -ℤ pos u ≡ pos (n - u)
from_zero n u h = omega (arith, ints)

shifted_in : (k : Kind) (n : ℕ) → n < above k + under k → in_range k (pos n -ℤ pos (under k)) ≡ true
shifted_in k n h = elim (cases_lt n (under k)) [
  | inl l ↦ rw (under_zero n (under k) l) (lt-ltb (under k - n - 1) (under k) (omega arith))
  | inr g ↦ rw (from_zero n (under k) g) (lt-ltb (n - under k) (above k) (omega arith))
]

pub span_some : (k : Kind) → 0 < span k
unfolding span
span_some kind.Octet = omega arith
span_some kind.I8 = omega arith
span_some kind.U8 = omega arith
span_some kind.Char = omega arith
span_some kind.I16 = omega arith
span_some kind.U16 = omega arith
span_some kind.I32 = omega arith
span_some kind.U32 = omega arith
span_some kind.I64 = omega arith
span_some kind.U64 = omega arith
span_some kind.Bool = omega arith

span_within : (k : Kind) (n : ℕ) → n < span k → n < above k + under k
unfolding span
span_within k n h = omega arith

pub number_in : (k : Kind) (n : ℕ) → n < span k → in_range k (pos n -ℤ pos (under k)) ≡ true
number_in k n h = shifted_in k n (span_within k n h)

pub drawn_in : (k : Kind) (s : ℕ) → in_range k (drawn_number k s).value ≡ true
drawn_in k s = number_in k (below (span k) s) (below-lt (span k) s (span_some k))

either : (b : Bool) → (b ≡ true) ⊎ (b ≡ false)
either true = inl refl
either false = inr refl

not_zero : (n : ℕ) → int_eq (pos (n + 1)) (pos 0) ≡ false
not_zero n = elim (either (int_eq (pos (n + 1)) (pos 0))) [
  | inl e ↦ absurd (omega (arith, ints, (Decides-int_eq (pos (n + 1)) (pos 0)).0 e))
  | inr e ↦ e
]

pub letter_in : (n : ℕ) → n < 255 → is_letter (pos (n + 1)) ≡ true
letter_in n h =
    let small : in_range kind.Char (pos (n + 1)) ≡ true = lt-ltb (n + 1) 256 (omega arith) in
    let some : int_eq (pos (n + 1)) (pos 0) ≡ false = not_zero n in
    rw (small, some) refl

pub drawn_letter_in : (s : ℕ) → is_letter (drawn_letter s).value ≡ true
drawn_letter_in s = letter_in (below 255 s) (below-lt 255 s (omega arith))

-- ---- lengths

pub drawn_allowed : (c : Count) (s : ℕ) → Allows c (drawn_length c s).value
drawn_allowed (Exactly n) s = refl
drawn_allowed (AtMost n) s = let less = below-lt (min n 8 + 1) s (omega arith) in (omega arith, omega arith)
drawn_allowed Any s = let less = below-lt 9 s (omega arith) in omega arith

-- ---- several

pub length-several : {A : Type 0} (f : ℕ → Drawn A) (n s : ℕ) → length (several f n s).value ≡ n
length-several f zero s = refl
length-several f (suc n) s = ap suc (length-several f n (f s).state)

pub all_several : {A : Type 0} (p : A → Bool) (f : ℕ → Drawn A) → ((s : ℕ) → p (f s).value ≡ true) → (n s : ℕ)
    → list_all p (several f n s).value ≡ true
all_several p f h zero s = refl
all_several p f h (suc n) s = rw (h s) (all_several p f h n (f s).state)

-- ---- one of several

pub all_at : (p : ℤ → Bool) (ns : List ℤ) (i : ℕ) (d : ℤ) → list_all p ns ≡ true → i < length ns → p (get_or ns i d) ≡ true
all_at p [] i d h l = absurd (omega arith)
all_at p (n ∷ ns) zero d h l = (and_parts (p n) (list_all p ns) h).0
all_at p (n ∷ ns) (suc i) d h l = all_at p ns i d (and_parts (p n) (list_all p ns) h).1 (omega arith)

or_true : (b : Bool) → b || true ≡ true
or_true true = refl
or_true false = refl

pub any_at : (ns : List ℤ) (i : ℕ) (d : ℤ) → i < length ns → list_any (λ l. int_eq l (get_or ns i d)) ns ≡ true
any_at [] i d l = absurd (omega arith)
any_at (n ∷ ns) zero d l = let same : int_eq n n ≡ true = (Decides-int_eq n n).1 refl in rw same refl
any_at (n ∷ ns) (suc i) d l =
    let there = any_at ns i d (omega arith) in
    rw there (or_true (int_eq n (get_or ns i d)))

-- a draw, as the state goes round twice
pub next_is : (s : ℕ) → (s * 6364136223846793005 % 18446744073709551616 + 1442695040888963407) % 18446744073709551616 ≡ next s
unfolding next
next_is s = omega arith

pub below_is : (many s : ℕ) →
    (s * 6364136223846793005 % 18446744073709551616 + 1442695040888963407) % 18446744073709551616 / 8589934592 % many ≡ below many s
unfolding below
below_is many s = ap (λ z. z / 8589934592 % many) (next_is s)

-- the number of an arm that is found at a place
number_at : (arms : List (ℤ × ℕ)) (i : ℕ) (a : ℤ × ℕ) (d : ℤ) → slice_get arms i ≡ Some a → get_or (map (λ b. b.0) arms) i d ≡ a.0
number_at [] i a d e = absurd cc
number_at (b ∷ arms) zero a d e = let same : b ≡ a = cc in ap (λ z. z.0) same
number_at (b ∷ arms) (suc i) a d e = number_at arms i a d e

many_numbers : (arms : List (ℤ × ℕ)) → length (map (λ b. b.0) arms) ≡ length arms
many_numbers [] = refl
many_numbers (b ∷ arms) = ap suc (many_numbers arms)

pub drawn_arm_at : (arms : List (ℤ × ℕ)) (other : ℤ) (s : ℕ) (a : ℤ × ℕ) → slice_get arms (below (length arms) s) ≡ Some a
    → (drawn_one other (map (λ b. b.0) arms) s).value ≡ a.0
drawn_arm_at [] other s a e = absurd cc
drawn_arm_at (b ∷ arms) other s a e =
    ap (λ m.
    get_or
    (map
    (λ c. c.0) (b ∷ arms)) (below (suc m) s) other) (many_numbers arms) ∙ number_at (b ∷ arms) (below (length (b ∷ arms)) s) a other e

pub found_there : {A : Type 0} (xs : List A) (i : ℕ) → i < length xs → slice_get xs i ≡ None → ⊥
found_there [] i h e = omega arith
found_there (x ∷ xs) zero h e = absurd cc
found_there (x ∷ xs) (suc i) h e = found_there xs i (omega arith) e
