-- Receive code with other code in the place of each call.
use Rattle.std.specs.Prelude.{ℕ, zero, suc, ℤ, List, Option, None, Some, map}
use Rattle.cast_stub.specs.declared.recv.RecvOp.{RecvOp}
use Rattle.cast_stub.specs.RecvBlock.{Recv, finish, need, need_row, skip_any, skip_zero, pass, desc, row_block, row_wide, each, switch, if_there, call, Cases, no_default, default, case, code_seen}
use Rattle.cast_stub.specs.RecvAppend.{append, rebase}

abbrev mutual
  -- a block with a code for each call, made for the part at the call's path
  pub spliced : (ℕ → Recv) → Recv → Recv
  spliced code finish = finish
  spliced code (need n r) = need n (spliced code r)
  spliced code (need_row p u e r) = need_row p u e (spliced code r)
  spliced code (skip_any a r) = skip_any a (spliced code r)
  spliced code (skip_zero a r) = skip_zero a (spliced code r)
  spliced code (pass n gs r) = pass n gs (spliced code r)
  spliced code (desc p name size mul r) = desc p name size mul (spliced code r)
  spliced code (row_block p o r) = row_block p o (spliced code r)
  spliced code (row_wide p o r) = row_wide p o (spliced code r)
  spliced code (each p b r) = each p (spliced code b) (spliced code r)
  spliced code (switch p cs r) = switch p (cases_spliced code cs) (spliced code r)
  spliced code (if_there p b r) = if_there p (spliced code b) (spliced code r)
  spliced code (call k p r) = append (rebase p (code k)) (spliced code r)

  -- the same of the bodies of a switch
  pub cases_spliced : (ℕ → Recv) → Cases → Cases
  cases_spliced code no_default = no_default
  cases_spliced code (default b) = default (spliced code b)
  cases_spliced code (case m b cs) = case m (spliced code b) (cases_spliced code cs)

-- the same of a block that may be there
abbrev pub spliced_or_stop : (ℕ → Recv) → Option Recv → Recv
spliced_or_stop code None = finish
spliced_or_stop code (Some b) = spliced code b

-- the code of a number, calls replaced where at most so many codes are nested
abbrev pub inlined : (ℕ → Option Recv) → ℕ → ℕ → Recv
inlined subs zero k = finish
inlined subs (suc n) k = spliced_or_stop (inlined subs n) (subs k)

-- the bodies of a switch, each with its number
abbrev pub pairs_seen : List (ℤ × List RecvOp) → List (ℤ × Recv)
pairs_seen cases = map (λ c. (c.0, code_seen c.1)) cases

-- the same with a code for each call
abbrev pub pairs_spliced : (ℕ → Recv) → List (ℤ × List RecvOp) → List (ℤ × Recv)
pairs_spliced code cases = map (λ c. (c.0, spliced code (code_seen c.1))) cases
