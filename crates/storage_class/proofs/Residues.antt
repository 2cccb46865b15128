-- Lengths by the remainder of the position.
use Rattle.std.proofs.Common.{◌≡◌, ℕ, zero, suc, ◌+◌, ◌*◌, ◌%◌, ◌<◌, ◌≤◌, max, List, [], ◌∷◌, get_or, length, refl, sym, ap, ◌∙◌, arith}
use Rattle.std.proofs.Math.Nat.{mod-lt}
use Rattle.storage_class.specs.Classing.{from_each, length_at, length_after, run, greatest}

pub eighth : (f : ℕ → ℕ) (r : ℕ) → r < 8 → get_or (from_each f) r 0 ≡ f r
eighth f (suc (suc (suc (suc (suc (suc (suc (suc r)))))))) h = absurd (omega arith)
eighth f _ h = refl

below_eight : (p : ℕ) → p % 8 < 8
below_eight p = omega arith

-- a length from a position, of lengths that are the same where the remainder is
pub from_each_at : (f : ℕ → ℕ) → ((p : ℕ) → f (p % 8) ≡ f p) → (p : ℕ) → length_at (from_each f) p ≡ f p
unfolding length_at
from_each_at f same p = eighth f (p % 8) (below_eight p) ∙ same p

pub length_turns : (f : List ℕ) (p q : ℕ) → p % 8 ≡ q % 8 → length_at f p ≡ length_at f q
unfolding length_at
length_turns f p q h = ap (λ r. get_or f r 0) h

pub run_turns : (n : ℕ) (f : List ℕ) (p q : ℕ) → p % 8 ≡ q % 8 → run n f p ≡ run n f q
unfolding run
run_turns zero f p q h = refl
run_turns (suc n) f p q h =
    let here = length_turns f p q h in
    let rest = run_turns n f (p + length_at f p) (q + length_at f q) (omega (arith, h, here)) in
    rw (here, ← rest) (ap (λ z. length_at f q + run n f z) (ap (λ z. p + z) (sym here)))

turned : (p : ℕ) → p % 8 % 8 ≡ p % 8
turned p = omega arith

pub run_at : (n : ℕ) (f : List ℕ) (p : ℕ) → length_at (from_each (run n f)) p ≡ run n f p
run_at n f p = from_each_at (run n f) (λ q. run_turns n f (q % 8) q (turned q)) p

pub after_turns : (f g : List ℕ) (p q : ℕ) → p % 8 ≡ q % 8 → length_after f g p ≡ length_after f g q
after_turns f g p q h =
    let here = length_turns f p q h in
    let rest = length_turns g (p + length_at f p) (q + length_at f q) (omega (arith, h, here)) in
    omega (arith, here, rest)

pub after_at : (f g : List ℕ) (p : ℕ) → length_at (from_each (length_after f g)) p ≡ length_after f g p
after_at f g p = from_each_at (length_after f g) (λ q. after_turns f g (q % 8) q (turned q)) p

-- no length is above the greatest
item_most : (f : List ℕ) (i : ℕ) → get_or f i 0 ≤ greatest f
item_most [] i = omega arith
item_most (n ∷ ns) zero = omega arith
item_most (n ∷ ns) (suc i) = let rest = item_most ns i in omega (arith, rest)

pub length_most : (f : List ℕ) (p : ℕ) → length_at f p ≤ greatest f
unfolding length_at
length_most f p = item_most f (p % 8)
