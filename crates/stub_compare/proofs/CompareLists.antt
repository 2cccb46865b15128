-- Lists that loops go over, one step on.
use Rattle.std.proofs.Common.{◌≡◌, ℕ, zero, suc, ◌+◌, ◌-◌, ◌<◌, ◌≤◌, eqb, List, [], ◌∷◌, length, drop, get_or, Option, Some, None, refl, sym, ap, ◌∙◌, arith}
use Rattle.std.specs.Bool.{Decides}
use Rattle.std.specs.Option.{option_eq}
use Rattle.std.proofs.lemmas.Bool.Decides.{Decides-eqb}
use Rattle.std.specs.List.{range_with_len}
use Rattle.std.proofs.Math.Seq.{drop-cons}

next_is : (i : ℕ) → suc i ≡ i + 1
next_is i = omega arith

-- the items from one on, whatever stands behind the last
pub first_or : {A : Type 0} (xs : List A) (i : ℕ) (x d : A) → i < length xs → x ≡ get_or xs i d → drop i xs ≡ x ∷ drop (i + 1) xs
first_or {A} xs i x d less is =
    drop-cons xs i d less ∙ ap (λ (y : A). y ∷ drop (suc i) xs) (sym is) ∙ ap (λ k. x ∷ drop k xs) (next_is i)

pub first_of : {A : Type 0} (xs : List A) (i : ℕ) (x : A) → i < length xs → x ≡ get_or xs i x → drop i xs ≡ x ∷ drop (i + 1) xs
first_of xs i x = first_or xs i x x

-- an item, whatever stands behind the last
pub at_any : {A : Type 0} (xs : List A) (i : ℕ) (x d : A) → i < length xs → x ≡ get_or xs i x → get_or xs i d ≡ x
at_any [] i x d less is = absurd (omega arith)
at_any (y ∷ ys) zero x d less is = sym is
at_any (y ∷ ys) (suc i) x d less is = at_any ys i x d (omega (arith, less)) is

-- numbers that are left, one less
pub one_left : (n i : ℕ) → i < n → n - i ≡ suc (n - (i + 1))
one_left n i less = omega arith

-- numbers up to another, from one on
pub range_next : (n i : ℕ) → i < n → range_with_len i (n - i) ≡ i ∷ range_with_len (i + 1) (n - (i + 1))
range_next n i less = ap (range_with_len i) (one_left n i less)

pub range_all : (n : ℕ) → range_with_len 0 (n - 0) ≡ range_with_len 0 n
range_all n = let all : n - 0 ≡ n = omega arith in ap (range_with_len 0) all

pub range_none : (n i : ℕ) → n ≤ i → range_with_len i (n - i) ≡ []
range_none n i le = let none : n - i ≡ 0 = omega arith in ap (range_with_len i) none

-- what `==` says of numbers that may be there
pub Decides-option_eq : (a b : Option ℕ) → Decides (option_eq eqb a b) (a ≡ b)
Decides-option_eq None None = (λ e. refl, λ e. refl)
Decides-option_eq None (Some y) = (λ e. absurd (cc), λ e. absurd (cc))
Decides-option_eq (Some x) None = (λ e. absurd (cc), λ e. absurd (cc))
Decides-option_eq (Some x) (Some y) =
    (λ e. ap (λ n. Some n) ((Decides-eqb x y).0 e), λ e. let same : x ≡ y = cc in (Decides-eqb x y).1 same)
