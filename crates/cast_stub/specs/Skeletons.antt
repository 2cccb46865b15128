-- Code without its chunks and aligns, and how many of these stand together.
use Rattle.std.specs.Prelude.{ℕ, suc, ◌≤◌}
use Rattle.cast_stub.specs.Block.{Block, stop, ensure, ensure_row, align, chunk, row_copy, row_swap, row_wide, each, switch, if_there, call, patch, Cases, no_default, default, case}

abbrev mutual
  -- a block with its chunks and aligns left out
  pub skeleton : Block → Block
  skeleton stop = stop
  skeleton (ensure n r) = ensure n (skeleton r)
  skeleton (ensure_row p u e r) = ensure_row p u e (skeleton r)
  skeleton (align a r) = skeleton r
  skeleton (chunk s ps r) = skeleton r
  skeleton (row_copy p r) = row_copy p (skeleton r)
  skeleton (row_swap p r) = row_swap p (skeleton r)
  skeleton (row_wide p o r) = row_wide p o (skeleton r)
  skeleton (each p b r) = each p (skeleton b) (skeleton r)
  skeleton (switch p cs r) = switch p (cases_skeleton cs) (skeleton r)
  skeleton (if_there p b r) = if_there p (skeleton b) (skeleton r)
  skeleton (call k p r) = call k p (skeleton r)
  skeleton (patch a s o r) = patch a s o (skeleton r)

  -- the same of the bodies of a switch
  pub cases_skeleton : Cases → Cases
  cases_skeleton no_default = no_default
  cases_skeleton (default b) = default (skeleton b)
  cases_skeleton (case n b cs) = case n (skeleton b) (cases_skeleton cs)

abbrev mutual
  -- behind so many chunks and aligns, at most so many stand together, in bodies too
  pub IsShortAfter : ℕ → ℕ → Block → Type 0
  IsShortAfter most k stop = k ≤ most
  IsShortAfter most k (ensure n r) = (k ≤ most) × IsShortAfter most 0 r
  IsShortAfter most k (ensure_row p u e r) = (k ≤ most) × IsShortAfter most 0 r
  IsShortAfter most k (align a r) = IsShortAfter most (suc k) r
  IsShortAfter most k (chunk s ps r) = IsShortAfter most (suc k) r
  IsShortAfter most k (row_copy p r) = (k ≤ most) × IsShortAfter most 0 r
  IsShortAfter most k (row_swap p r) = (k ≤ most) × IsShortAfter most 0 r
  IsShortAfter most k (row_wide p o r) = (k ≤ most) × IsShortAfter most 0 r
  IsShortAfter most k (each p b r) = (k ≤ most) × (IsShortAfter most 0 b × IsShortAfter most 0 r)
  IsShortAfter most k (switch p cs r) = (k ≤ most) × (AreShort most cs × IsShortAfter most 0 r)
  IsShortAfter most k (if_there p b r) = (k ≤ most) × (IsShortAfter most 0 b × IsShortAfter most 0 r)
  IsShortAfter most k (call c p r) = (k ≤ most) × IsShortAfter most 0 r
  IsShortAfter most k (patch a s o r) = (k ≤ most) × IsShortAfter most 0 r

  -- the same of the bodies of a switch
  pub AreShort : ℕ → Cases → Type 0
  AreShort most no_default = Unit {0}
  AreShort most (default b) = IsShortAfter most 0 b
  AreShort most (case n b cs) = IsShortAfter most 0 b × AreShort most cs

-- at most so many chunks and aligns stand together, in bodies too
abbrev pub IsRunShort : ℕ → Block → Type 0
IsRunShort most b = IsShortAfter most 0 b
