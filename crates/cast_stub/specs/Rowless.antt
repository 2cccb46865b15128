-- Code without row operations.
use Rattle.std.specs.Prelude.{◌≡◌, ℕ, List, [], ◌∷◌, Some}
use Rattle.cast_stub.specs.declared.send.SendOp.{SendOp}
use Rattle.cast_stub.specs.declared.send.SendCode.{SendCode}
use Rattle.cast_stub.specs.Block.{Block, stop, ensure, ensure_row, align, chunk, row_copy, row_swap, row_wide, each, switch, if_there, call, patch, Cases, no_default, default, case, code_seen}
use Rattle.cast_stub.specs.Steps.{Step, Room, Pad, Stored, Widened, Copied, Patched}
use Rattle.cast_stub.specs.Subs.{sub_at}

abbrev mutual
  -- no row operation, nor one in a body
  pub IsRowless : Block → Type 0
  IsRowless stop = Unit {0}
  IsRowless (ensure n r) = IsRowless r
  IsRowless (ensure_row p u e r) = IsRowless r
  IsRowless (align a r) = IsRowless r
  IsRowless (chunk s ps r) = IsRowless r
  IsRowless (row_copy p r) = ⊥
  IsRowless (row_swap p r) = ⊥
  IsRowless (row_wide p o r) = ⊥
  IsRowless (each p b r) = IsRowless b × IsRowless r
  IsRowless (switch p cs r) = AreRowless cs × IsRowless r
  IsRowless (if_there p b r) = IsRowless b × IsRowless r
  IsRowless (call k p r) = IsRowless r
  IsRowless (patch a s o r) = IsRowless r

  pub AreRowless : Cases → Type 0
  AreRowless no_default = Unit {0}
  AreRowless (default b) = IsRowless b
  AreRowless (case n b cs) = IsRowless b × AreRowless cs

-- codes without row operations
abbrev pub HaveNoRow : List (List SendOp) → Type 0
HaveNoRow subs = (k : ℕ) (b : Block) → sub_at subs k ≡ Some b → IsRowless b

-- a send code without row operations, in the codes that its calls name too
pub record HasNoRow (code : SendCode) : Type 0 where
  pub ops : IsRowless (code_seen code.ops)
  pub subs : HaveNoRow code.subs

-- steps that give no row as a block
abbrev pub GiveNoRow : List Step → Type 0
GiveNoRow [] = Unit {0}
GiveNoRow (Room n ∷ ss) = GiveNoRow ss
GiveNoRow (Pad a ∷ ss) = GiveNoRow ss
GiveNoRow (Stored os k ∷ ss) = GiveNoRow ss
GiveNoRow (Widened os k ∷ ss) = ⊥
GiveNoRow (Copied os ∷ ss) = ⊥
GiveNoRow (Patched at sub order ∷ ss) = GiveNoRow ss
