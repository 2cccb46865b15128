-- What is known by the type at a path; how operations are seen.
use Rattle.std.proofs.Common.{◌≡◌, List, ℕ, Option, Some, sym, ap, subst, ◌∙◌}
use Rattle.mint.specs.Types.{Scalar, Ty, choice_type, Arms}
use Rattle.cast_stub.specs.Parts.{on_some}
use Rattle.cast_stub.specs.PartTypes.{ty_at, arms_type, arms_at}
use Rattle.cast_stub.proofs.Pieces.{pieces}
use Rattle.copy_inline.specs.Ready.{OfType}
use Rattle.copy_inline.specs.Rowed.{by_type}

-- ---- by the node at a path

-- a type that is there has the fact
pub typed : {A : Type 0} (x : Option A) (P : A → Type 0) (a : A) → x ≡ Some a → OfType x P → P a
typed x P a e h = subst (λ y. OfType y P) e h

pub by_typed : {A B : Type 0} (x : Option A) (b : B) (f : A → B) (a : A) → x ≡ Some a → f a ≡ by_type x b f
by_typed x b f a e = sym (ap (λ y. by_type y b f) e)

pub arms_there : (path : List ℕ) (t u : Ty) (s : Scalar) (arms : Arms) → Some u ≡ ty_at path t → u ≡ choice_type s arms
    → arms_at path t ≡ Some arms
arms_there path t u s arms is of = ap (λ (x : Option Ty). on_some x arms_type) (sym is) ∙ ap arms_type of

pub ruleset emitting = (pieces)
