-- How many operations are in a code.
use Rattle.std.specs.Prelude.{ℕ, suc, ◌+◌, ◌≤◌, List, [], ◌∷◌, Option, None, Some}
use Rattle.cast_stub.specs.declared.recv.RecvOp.{RecvOp}
use Rattle.cast_stub.specs.RecvBlock.{Recv, finish, need, need_row, skip_any, skip_zero, pass, desc, row_block, row_wide, each, switch, if_there, call, Cases, no_default, default, case, code_seen}

abbrev mutual
  -- the operations of a block, those inside bodies too
  pub size : Recv → ℕ
  size finish = 0
  size (need n r) = suc (size r)
  size (need_row p u e r) = suc (size r)
  size (skip_any a r) = suc (size r)
  size (skip_zero a r) = suc (size r)
  size (pass n gs r) = suc (size r)
  size (desc p name bits mul r) = suc (size r)
  size (row_block p o r) = suc (size r)
  size (row_wide p o r) = suc (size r)
  size (each p b r) = suc (size b + size r)
  size (switch p cs r) = suc (sizes cs + size r)
  size (if_there p b r) = suc (size b + size r)
  size (call k p r) = suc (size r)

  -- those of the bodies of a switch
  pub sizes : Cases → ℕ
  sizes no_default = 0
  sizes (default b) = size b
  sizes (case n b cs) = size b + sizes cs

-- the operations of a code
abbrev pub code_size : List RecvOp → ℕ
code_size ops = size (code_seen ops)

-- the operations of all codes
abbrev pub all_sizes : List (List RecvOp) → ℕ
all_sizes [] = 0
all_sizes (c ∷ cs) = code_size c + all_sizes cs

-- a body that may be there is at most as large as the bodies of a switch together
abbrev pub IsBody : Option (List RecvOp) → Cases → Type 0
IsBody None cs = Unit {0}
IsBody (Some b) cs = code_size b ≤ sizes cs
