-- Lengths of wholes, from those of their parts.
use Rattle.std.proofs.Common.{◌≡◌, ℕ, ◌+◌, ◌*◌, ◌≤◌, nat_le, List, Bool, true, false, cond, Option, None, Some, refl, sym, ◌∙◌, arith}
use Rattle.std.specs.List.{list_all}
use Rattle.storage_class.specs.declared.span.Span.{Span}
use Rattle.storage_class.specs.declared.span.Span.TheVariants.{Fixed, Bounded, Unbounded}
use Rattle.storage_class.specs.Classing.{from_each, length_at, length_after, greatest, exactly, at_most, top, loose, sum_of_tops, after, either, times_top, HasLength}
use Rattle.storage_class.proofs.Residues.{after_at, length_most}

reported : (b : Bool) (s : Span) (p l : ℕ) → HasLength s p l → HasLength (cond b s Unbounded) p l
reported true s p l h = h
reported false s p l h = tt

pub exactly_within : (f : List ℕ) (p l : ℕ) → l ≡ length_at f p → HasLength (exactly f) p l
exactly_within f p l h = reported (list_all (λ n. nat_le n 4294967295) f) (Fixed f) p l h

pub at_most_within : (n p l : ℕ) → l ≤ n → HasLength (at_most n) p l
at_most_within n p l h = reported (nat_le n 4294967295) (Bounded n) p l h

pub loose_within : (s : Span) (p l : ℕ) → HasLength s p l → HasLength (loose s) p l
loose_within (Fixed f) p l h = let most = length_most f p in omega (arith, h, most)
loose_within (Bounded n) p l h = h
loose_within Unbounded p l h = tt

pub nothing_within : (s : Span) (p : ℕ) → HasLength (loose s) p 0
nothing_within (Fixed n) p = omega arith
nothing_within (Bounded n) p = omega arith
nothing_within Unbounded p = tt

some_same : (m n : ℕ) → Some m ≡ Some n → m ≡ n
some_same m n e = cc

within_top : (s : Span) (p l n : ℕ) → HasLength s p l → top s ≡ Some n → l ≤ n
within_top (Fixed f) p l n h e = let most = length_most f p in let same = some_same (greatest f) n e in omega (arith, h, most, same)
within_top (Bounded m) p l n h e = let same = some_same m n e in omega (arith, h, same)
within_top Unbounded p l n h e = absurd cc

tops_within : (x y : Option ℕ) (p k l : ℕ) → ((m : ℕ) → x ≡ Some m → k ≤ m) → ((n : ℕ) → y ≡ Some n → l ≤ n)
    → HasLength (sum_of_tops x y) p (k + l)
tops_within (Some m) (Some n) p k l f g =
    let one = f m refl in
    let two = g n refl in
    at_most_within (m + n) p (k + l) (omega (arith, one, two))
tops_within (Some m) None p k l f g = tt
tops_within None y p k l f g = tt

-- two parts, wherever the second is, by their bounds alone
pub both_within : (a b : Span) (p q k l : ℕ) → HasLength a p k → HasLength b q l → HasLength (sum_of_tops (top a) (top b)) p (k + l)
both_within a b p q k l h j = tops_within (top a) (top b) p k l (λ m. within_top a p k m h) (λ n. within_top b q l n j)

pub after_within : (a b : Span) (p k l : ℕ) → HasLength a p k → HasLength b (p + k) l → HasLength (after a b) p (k + l)
after_within (Fixed f) (Fixed g) p k l h j =
    let whole = after_at f g p in
    let second : l ≡ length_at g (p + length_at f p) = rw h at j in
    exactly_within (from_each (length_after f g)) p (k + l) (omega (arith, h, second, whole))
after_within a b p k l h j = both_within a b p (p + k) k l h j

pub joined_within : (b : Bool) (x y : Span) (p l : ℕ) → HasLength x p l → HasLength y p l → HasLength (cond b x y) p l
joined_within true x y p l h j = h
joined_within false x y p l h j = j

pub first_within : (a b : Span) (p l : ℕ) → HasLength a p l → HasLength (either a b) p l
first_within (Fixed f) (Fixed g) p l h = let most = length_most f p in omega (arith, h, most)
first_within (Fixed f) (Bounded n) p l h = let most = length_most f p in omega (arith, h, most)
first_within (Fixed f) Unbounded p l h = tt
first_within (Bounded m) (Fixed g) p l h = omega arith
first_within (Bounded m) (Bounded n) p l h = omega arith
first_within (Bounded m) Unbounded p l h = tt
first_within Unbounded (Fixed n) p l h = tt
first_within Unbounded (Bounded n) p l h = tt
first_within Unbounded Unbounded p l h = tt

pub second_within : (a b : Span) (p l : ℕ) → HasLength b p l → HasLength (either a b) p l
second_within (Fixed f) (Fixed g) p l h = let most = length_most g p in omega (arith, h, most)
second_within (Fixed f) (Bounded n) p l h = omega arith
second_within (Fixed f) Unbounded p l h = tt
second_within (Bounded m) (Fixed g) p l h = let most = length_most g p in omega (arith, h, most)
second_within (Bounded m) (Bounded n) p l h = omega arith
second_within (Bounded m) Unbounded p l h = tt
second_within Unbounded (Fixed n) p l h = tt
second_within Unbounded (Bounded n) p l h = tt
second_within Unbounded Unbounded p l h = tt
