-- Receive code whose loops over rows and texts have one shape.
use Rattle.std.specs.Prelude.{◌≡◌, Option, Some}
use Rattle.mint.specs.Types.{Array, Ty, array_type, items_type, Arms, no_other, others, arm_type}
use Rattle.wire_def.specs.declared.encoding.Encoding.{Encoding}
use Rattle.cast_stub.specs.RecvBlock.{Recv, finish, need, need_row, skip_any, skip_zero, pass, desc, row_block, row_wide, each, switch, if_there, call, Cases, no_default, default, case}
use Rattle.cast_stub.specs.Layouts.{layout_of}
use Rattle.cast_stub.specs.PartTypes.{ty_at, present_at, arms_at}
use Rattle.cast_stub.specs.Traces.{descs, IsNumber}
use Rattle.copy_inline.specs.Ready.{OfType}

-- the turn of a loop over an array: tests, skips and takes, and one number where the array has a row operation
abbrev pub IsTurn : Encoding → Array → Recv → Type 0
IsTurn e a b = IsNumber (layout_of e a) b × (descs b ≡ Some 0)

-- a loop over a part of a type, whose body has a fact of the element's type where the part is a list
abbrev pub LoopIs : Encoding → Option Ty → Recv → (Ty → Type 0) → Type 0
LoopIs e (Some (array_type a)) b P = IsTurn e a b
LoopIs e (Some (items_type c t)) b P = P t
LoopIs e _ b P = ⊥

abbrev mutual
  -- no row operation and no call; each body is for a part that is there, and loops over arrays have such turns
  pub IsReady : Encoding → Ty → Recv → Type 0
  IsReady e t finish = Unit {0}
  IsReady e t (need n r) = IsReady e t r
  IsReady e t (need_row p u x r) = ⊥
  IsReady e t (skip_any a r) = IsReady e t r
  IsReady e t (skip_zero a r) = IsReady e t r
  IsReady e t (pass n gs r) = IsReady e t r
  IsReady e t (desc p name size mul r) = IsReady e t r
  IsReady e t (row_block p o r) = ⊥
  IsReady e t (row_wide p o r) = ⊥
  IsReady e t (each p b r) = LoopIs e (ty_at p t) b (λ u. IsReady e u b) × IsReady e t r
  IsReady e t (switch p cs r) = OfType (arms_at p t) (λ arms. CasesReady e arms cs) × IsReady e t r
  IsReady e t (if_there p b r) = OfType (present_at p t) (λ u. IsReady e u b) × IsReady e t r
  IsReady e t (call k p r) = ⊥

  -- the same of the bodies of a switch, in the order of the arms
  pub CasesReady : Encoding → Arms → Cases → Type 0
  CasesReady e no_other no_default = Unit {0}
  CasesReady e (others t) (default b) = IsReady e t b
  CasesReady e (arm_type n t arms) (case m b cs) = (n ≡ m) × IsReady e t b × CasesReady e arms cs
  CasesReady e _ _ = ⊥
