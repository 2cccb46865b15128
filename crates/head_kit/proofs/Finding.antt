-- Operations that are found from left to right.
use Rattle.std.proofs.Common.{◌≡◌, ◌+◌, ◌<◌, ◌≤◌, ℕ, zero, suc, Bool, true, false, List, [], ◌∷◌, ◌++◌, Option, Some, None, length, get_or, refl, ap, arith}
use Rattle.std.specs.Prelude.{slice_get, if◌then◌else◌}
use Rattle.std.specs.List.{position_from}
use Rattle.head_kit.specs.declared.call_head.CallTarget.{CallTarget}
use Rattle.head_kit.specs.declared.call_head.CallTarget.TheVariants as naming
use Rattle.head_kit.specs.Calls.{IsBelow, operation_at}

-- ---- operations that are named are among those that there are

pub more : (n m : ℕ) (x : CallTarget) → IsBelow n x → n ≤ m → IsBelow m x
more n m (naming.Operation op) below h = omega arith
more n m naming.NoInterface below h = tt
more n m naming.NoOperation below h = tt

pub either : (n : ℕ) (b : Bool) (x y : CallTarget) → IsBelow n x → IsBelow n y → IsBelow n (if b then x else y)
either n true x y h g = h
either n false x y h g = g

either_place : (n k : ℕ) (b : Bool) (o : Option ℕ) → k < n → IsBelow n (operation_at o) → IsBelow n (operation_at (if b then Some k else o))
either_place n k true o h g = h
either_place n k false o h g = g

pub position_below : {A : Type 0} (p : A → Bool) (k : ℕ) (xs : List A) → IsBelow (k + length xs) (operation_at (position_from p k xs))
position_below p k [] = tt
position_below p k (x ∷ xs) = either_place _ k (p x) (position_from p (k + 1) xs) (omega arith)
    (more _ _ _ (position_below p (k + 1) xs) (omega arith))

-- ---- an operation that is found

pub chosen : {A : Type 0} (b : Bool) (x y : A) → b ≡ true → (if b then x else y) ≡ x
chosen true x y e = refl
chosen false x y e = absurd cc

pub passed : {A : Type 0} (b : Bool) (x y : A) → b ≡ false → (if b then x else y) ≡ y
passed true x y e = absurd cc
passed false x y e = refl

pub place_of : (o : Option ℕ) (op : ℕ) → operation_at o ≡ naming.Operation op → o ≡ Some op
place_of None op e = absurd cc
place_of (Some j) op e = cc

-- the element at a place counted from k, which passes
abbrev pub Found : {A : Type 0} → (A → Bool) → ℕ → List A → ℕ → Type 0
Found {A} p k xs j = (n : ℕ) × (x : A) × (j ≡ k + n) × (slice_get xs n ≡ Some x) × (p x ≡ true)

found_step : {A : Type 0} (p : A → Bool) (k : ℕ) (x : A) (xs : List A) (j : ℕ) (t : Bool) → p x ≡ t
    → (position_from p (k + 1) xs ≡ Some j → Found p (k + 1) xs j) → (if t then Some k else position_from p (k + 1) xs) ≡ Some j
    → Found p k (x ∷ xs) j
found_step p k x xs j true is later e = (0, x, (let same : k ≡ j = cc in omega arith), refl, is)
found_step p k x xs j false is later e = let (n, y, at, there, has) = later e in (suc n, y, omega (arith, at), there, has)

pub found : {A : Type 0} (p : A → Bool) (k : ℕ) (xs : List A) (j : ℕ) → position_from p k xs ≡ Some j → Found p k xs j
found p k [] j e = absurd cc
found p k (x ∷ xs) j e = found_step p k x xs j (p x) refl (found p (k + 1) xs j) e

-- ---- elements of lists in a row

pub in_front : {A : Type 0} (xs ys : List A) (n : ℕ) (x : A) → slice_get xs n ≡ Some x → slice_get (xs ++ ys) n ≡ Some x
in_front [] ys n x e = absurd cc
in_front (y ∷ xs) ys zero x e = e
in_front (y ∷ xs) ys (suc n) x e = in_front xs ys n x e

pub after : {A : Type 0} (xs ys : List A) (n m : ℕ) → m ≡ length xs + n → slice_get (xs ++ ys) m ≡ slice_get ys n
after [] ys n m e = ap (slice_get ys) (omega (arith, e))
after (x ∷ xs) ys n zero e = absurd (omega (arith, e))
after (x ∷ xs) ys n (suc m) e = after xs ys n m (omega (arith, e))

pub at_some : {A : Type 0} (xs : List A) (n : ℕ) (x d : A) → slice_get xs n ≡ Some x → get_or xs n d ≡ x
at_some [] n x d e = absurd cc
at_some (y ∷ xs) zero x d e = cc
at_some (y ∷ xs) (suc n) x d e = at_some xs n x d e
