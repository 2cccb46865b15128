-- Truth values, and choices by them.
use Rattle.std.proofs.lemmas.Bool.Decides.{eqb_tells}
use Rattle.std.proofs.Common.{◌≡◌, ℕ, suc, ◌<◌, arith, Bool, true, false, ◌⊎◌, inl, inr, refl, if◌then◌else◌}

-- truth values that imply one another are the same
pub same_truth : (a b : Bool) → (a ≡ true → b ≡ true) → (b ≡ true → a ≡ true) → a ≡ b
same_truth true true f g = refl
same_truth true false f g = absurd (let e : false ≡ true = f refl in cc)
same_truth false true f g = absurd (let e : false ≡ true = g refl in cc)
same_truth false false f g = refl

-- a fact of both is a fact of the one that is chosen
pub chosen : {A : Type 0} (P : A → Type 0) (b : Bool) (x y : A) → (b ≡ true → P x) → (b ≡ false → P y) → P (if b then x else y)
chosen P true x y p q = p refl
chosen P false x y p q = q refl

-- a number below the next is the number or below it
pub at_or_below : (q k : ℕ) → q < suc k → (q ≡ k) ⊎ (q < k)
at_or_below q k lt = elim (eqb_tells q k) [ inl t ↦ inl t.1 | inr f ↦ inr (omega (arith, f.1)) ]
