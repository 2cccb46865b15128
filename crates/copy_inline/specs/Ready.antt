-- Send code whose loops over rows and texts have one shape, whatever is ensured between.
use Rattle.std.specs.Prelude.{◌≡◌, ℕ, Option, None, Some}
use Rattle.mint.specs.Types.{Array, Ty, array_type, items_type, Arms, no_other, others, arm_type}
use Rattle.wire_def.specs.declared.encoding.Encoding.{Encoding}
use Rattle.cast_stub.specs.Block.{Block, stop, ensure, ensure_row, align, chunk, row_copy, row_swap, row_wide, each, switch, if_there, call, patch, Cases, no_default, default, case}
use Rattle.cast_stub.specs.Follows.{flat}
use Rattle.cast_stub.specs.Layouts.{layout_of}
use Rattle.cast_stub.specs.PartTypes.{ty_at, present_at, arms_at}
use Rattle.cast_stub.specs.Turned.{IsNumber}

-- a fact of a type that is there
abbrev pub OfType : {A : Type 0} → Option A → (A → Type 0) → Type 0
OfType None P = ⊥
OfType (Some a) P = P a

-- the turn of a loop over an array: chunks and aligns, and one number where the array has a row operation
abbrev pub IsTurn : Encoding → Array → Block → Type 0
IsTurn e a b = IsNumber (layout_of e a) b × (n : ℕ) × (flat b ≡ Some n)

-- a loop over a part of a type, whose body has a fact of the element's type where the part is a list
abbrev pub LoopIs : Encoding → Option Ty → Block → (Ty → Type 0) → Type 0
LoopIs e (Some (array_type a)) b P = IsTurn e a b
LoopIs e (Some (items_type c t)) b P = P t
LoopIs e _ b P = ⊥

abbrev mutual
  -- no row operation and no call; each body is of a part that is there, and loops over arrays have such turns
  pub IsReady : Encoding → Ty → Block → Type 0
  IsReady e t stop = Unit {0}
  IsReady e t (ensure n r) = IsReady e t r
  IsReady e t (ensure_row p u x r) = IsReady e t r
  IsReady e t (align a r) = IsReady e t r
  IsReady e t (chunk s ps r) = IsReady e t r
  IsReady e t (row_copy p r) = ⊥
  IsReady e t (row_swap p r) = ⊥
  IsReady e t (row_wide p o r) = ⊥
  IsReady e t (each p b r) = LoopIs e (ty_at p t) b (λ u. IsReady e u b) × IsReady e t r
  IsReady e t (switch p cs r) = OfType (arms_at p t) (λ arms. CasesReady e arms cs) × IsReady e t r
  IsReady e t (if_there p b r) = OfType (present_at p t) (λ u. IsReady e u b) × IsReady e t r
  IsReady e t (call k p r) = ⊥
  IsReady e t (patch a s o r) = IsReady e t r

  -- the same of the bodies of a switch, in the order of the arms
  pub CasesReady : Encoding → Arms → Cases → Type 0
  CasesReady e no_other no_default = Unit {0}
  CasesReady e (others t) (default b) = IsReady e t b
  CasesReady e (arm_type n t arms) (case m b cs) = (n ≡ m) × IsReady e t b × CasesReady e arms cs
  CasesReady e _ _ = ⊥
