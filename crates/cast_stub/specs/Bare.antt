-- Code without ensures, and ensures that stand in no loop over a row.
use Rattle.std.specs.Prelude.{Option, None, Some}
use Rattle.mint.specs.Types.{Ty, items_type, Arms, others, arm_type}
use Rattle.cast_stub.specs.Block.{Block, stop, ensure, ensure_row, align, chunk, row_copy, row_swap, row_wide, each, switch, if_there, call, patch, Cases, no_default, default, case}
use Rattle.cast_stub.specs.PartTypes.{ty_at, present_at, arms_at}

abbrev mutual
  -- no ensure, no row as a block and no call, nor one in a body
  pub IsBare : Block → Type 0
  IsBare stop = Unit {0}
  IsBare (ensure n r) = ⊥
  IsBare (ensure_row p u e r) = ⊥
  IsBare (align a r) = IsBare r
  IsBare (chunk s ps r) = IsBare r
  IsBare (row_copy p r) = ⊥
  IsBare (row_swap p r) = ⊥
  IsBare (row_wide p o r) = ⊥
  IsBare (each p b r) = IsBare b × IsBare r
  IsBare (switch p cs r) = CasesBare cs × IsBare r
  IsBare (if_there p b r) = IsBare b × IsBare r
  IsBare (call k p r) = ⊥
  IsBare (patch a s o r) = IsBare r

  -- the same of the bodies of a switch
  pub CasesBare : Cases → Type 0
  CasesBare no_default = Unit {0}
  CasesBare (default b) = IsBare b
  CasesBare (case m b cs) = IsBare b × CasesBare cs

-- ---- loops over rows

-- a fact of the type of the elements of a list, or another fact where the type is not a list
abbrev pub OfItems : Option Ty → (Ty → Type 0) → Type 0 → Type 0
OfItems (Some (items_type c t)) P Q = P t
OfItems _ P Q = Q

-- a fact of a type, if it is there
abbrev pub IfTyped : {A : Type 0} → Option A → (A → Type 0) → Type 0
IfTyped None P = Unit {0}
IfTyped (Some a) P = P a

abbrev mutual
  -- no ensure, row as a block or call is in the body of a loop over a row or text
  pub RowsAreBare : Ty → Block → Type 0
  RowsAreBare t stop = Unit {0}
  RowsAreBare t (ensure n r) = RowsAreBare t r
  RowsAreBare t (ensure_row p u e r) = RowsAreBare t r
  RowsAreBare t (align a r) = RowsAreBare t r
  RowsAreBare t (chunk s ps r) = RowsAreBare t r
  RowsAreBare t (row_copy p r) = RowsAreBare t r
  RowsAreBare t (row_swap p r) = RowsAreBare t r
  RowsAreBare t (row_wide p o r) = RowsAreBare t r
  RowsAreBare t (each p b r) = OfItems (ty_at p t) (λ u. RowsAreBare u b) (IsBare b) × RowsAreBare t r
  RowsAreBare t (switch p cs r) = IfTyped (arms_at p t) (λ arms. CasesRowsAreBare arms cs) × RowsAreBare t r
  RowsAreBare t (if_there p b r) = IfTyped (present_at p t) (λ u. RowsAreBare u b) × RowsAreBare t r
  RowsAreBare t (call k p r) = RowsAreBare t r
  RowsAreBare t (patch a s o r) = RowsAreBare t r

  -- the same of the bodies of a switch
  pub CasesRowsAreBare : Arms → Cases → Type 0
  CasesRowsAreBare (others t) (default b) = RowsAreBare t b
  CasesRowsAreBare (arm_type n t arms) (case m b cs) = RowsAreBare t b × CasesRowsAreBare arms cs
  CasesRowsAreBare _ _ = Unit {0}
