-- Code with other code in the place of each call.
use Rattle.std.specs.Prelude.{ℕ, zero, suc, ℤ, List, Option, None, Some, map}
use Rattle.cast_stub.specs.declared.send.SendOp.{SendOp}
use Rattle.cast_stub.specs.Block.{Block, stop, ensure, ensure_row, align, chunk, row_copy, row_swap, row_wide, each, switch, if_there, call, patch, Cases, no_default, default, case, code_seen}
use Rattle.cast_stub.specs.Append.{append, rebase}

abbrev mutual
  -- a block with a code for each call, made for the part at the call's path
  pub spliced : (ℕ → Block) → Block → Block
  spliced code stop = stop
  spliced code (ensure n r) = ensure n (spliced code r)
  spliced code (ensure_row p u e r) = ensure_row p u e (spliced code r)
  spliced code (align a r) = align a (spliced code r)
  spliced code (chunk s ps r) = chunk s ps (spliced code r)
  spliced code (row_copy p r) = row_copy p (spliced code r)
  spliced code (row_swap p r) = row_swap p (spliced code r)
  spliced code (row_wide p o r) = row_wide p o (spliced code r)
  spliced code (each p b r) = each p (spliced code b) (spliced code r)
  spliced code (switch p cs r) = switch p (cases_spliced code cs) (spliced code r)
  spliced code (if_there p b r) = if_there p (spliced code b) (spliced code r)
  spliced code (call k p r) = append (rebase p (code k)) (spliced code r)
  spliced code (patch a s o r) = patch a s o (spliced code r)

  -- the same of the bodies of a switch
  pub cases_spliced : (ℕ → Block) → Cases → Cases
  cases_spliced code no_default = no_default
  cases_spliced code (default b) = default (spliced code b)
  cases_spliced code (case m b cs) = case m (spliced code b) (cases_spliced code cs)

-- the same of a block that may be there
abbrev pub spliced_or_stop : (ℕ → Block) → Option Block → Block
spliced_or_stop code None = stop
spliced_or_stop code (Some b) = spliced code b

-- the code of a number, calls replaced where at most so many codes are nested
abbrev pub inlined : (ℕ → Option Block) → ℕ → ℕ → Block
inlined subs zero k = stop
inlined subs (suc n) k = spliced_or_stop (inlined subs n) (subs k)

-- the bodies of a switch, each with its number
abbrev pub pairs_seen : List (ℤ × List SendOp) → List (ℤ × Block)
pairs_seen cases = map (λ c. (c.0, code_seen c.1)) cases

-- the same with a code for each call
abbrev pub pairs_spliced : (ℕ → Block) → List (ℤ × List SendOp) → List (ℤ × Block)
pairs_spliced code cases = map (λ c. (c.0, spliced code (code_seen c.1))) cases
