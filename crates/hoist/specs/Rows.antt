-- Loops over big rows, each after the `ensure_row` of its list.
use Rattle.std.specs.Prelude.{◌≡◌, ℕ, List, Option, None, Some}
use Rattle.mint.specs.Types.{Ty, Arms, others, arm_type}
use Rattle.cast_stub.specs.Block.{Block, stop, ensure, ensure_row, align, chunk, row_copy, row_swap, row_wide, each, switch, if_there, call, patch, Cases, default, case}
use Rattle.cast_stub.specs.PartTypes.{present_at, arms_at}
use Rattle.cast_stub.specs.Bare.{IfTyped}
use Rattle.hoist.specs.Hoisted.{Role, is_break, Roles, IfRow, items_at}

-- a fact of the bodies of a part that is neither small nor a row
abbrev pub IfBreak : Role → Type 0 → Type 0
IfBreak is_break P = P
IfBreak _ P = Unit {0}

abbrev mutual
  -- before each loop over a big row is the `ensure_row` of its list, with no ensure or body between; the list that
  -- is ensured, if there is one
  pub RowsEnsured : Roles → Ty → Option (List ℕ) → Block → Type 0
  RowsEnsured ro t list stop = Unit {0}
  RowsEnsured ro t list (ensure n r) = RowsEnsured ro t None r
  RowsEnsured ro t list (ensure_row p u e r) = RowsEnsured ro t (Some p) r
  RowsEnsured ro t list (align a r) = RowsEnsured ro t list r
  RowsEnsured ro t list (chunk s ps r) = RowsEnsured ro t list r
  RowsEnsured ro t list (row_copy p r) = RowsEnsured ro t list r
  RowsEnsured ro t list (row_swap p r) = RowsEnsured ro t list r
  RowsEnsured ro t list (row_wide p o r) = RowsEnsured ro t list r
  RowsEnsured ro t list (each p b r) =
      IfRow (ro t p) (list ≡ Some p) × IfBreak (ro t p) (IfTyped (items_at p t) (λ u. RowsEnsured ro u None b)) × RowsEnsured ro t None r
  RowsEnsured ro t list (switch p cs r) = IfBreak (ro t p) (IfTyped (arms_at p t) (λ arms. CasesRowsEnsured ro arms cs))
      × RowsEnsured ro t None r
  RowsEnsured ro t list (if_there p b r) = IfBreak (ro t p) (IfTyped (present_at p t) (λ u. RowsEnsured ro u None b))
      × RowsEnsured ro t None r
  RowsEnsured ro t list (call k p r) = RowsEnsured ro t None r
  RowsEnsured ro t list (patch a s o r) = RowsEnsured ro t list r

  -- the same of the bodies of a switch
  pub CasesRowsEnsured : Roles → Arms → Cases → Type 0
  CasesRowsEnsured ro (others t) (default b) = RowsEnsured ro t None b
  CasesRowsEnsured ro (arm_type n t arms) (case m b cs) = RowsEnsured ro t None b × CasesRowsEnsured ro arms cs
  CasesRowsEnsured ro _ _ = Unit {0}
