-- What a run meets: what may be stored, rows, and the moves that are allowed for it.
use Rattle.std.specs.Prelude.{ℕ, zero, suc, ◌+◌, ℤ, List, [], ◌∷◌, Option, None, Some, if◌then◌else◌}
use Rattle.std.specs.Ordering.{int_eq}
use Rattle.mint.specs.Values.{Val, present, Vals, no_more, val, arm_in}
use Rattle.cast_stub.specs.declared.send.SendCode.{SendCode}
use Rattle.cast_stub.specs.Block.{Block, stop, ensure, ensure_row, align, chunk, row_copy, row_swap, row_wide, each, switch, if_there, call, patch, Cases, no_default, default, case, code_seen}
use Rattle.cast_stub.specs.Parts.{on_some, at, elements_in}
use Rattle.cast_stub.specs.Steps.{Step, Room, Pad, Stored, Widened, Copied, Patched}
use Rattle.cast_stub.specs.Subs.{deepest, sub_at}

-- the puts, aligns and patches of steps, and the numbers of their wide rows
abbrev pub met : List Step → ℕ
met [] = 0
met (Room n ∷ ss) = met ss
met (Pad a ∷ ss) = suc (met ss)
met (Stored os k ∷ ss) = k + met ss
met (Widened os k ∷ ss) = k + met ss
met (Copied os ∷ ss) = met ss
met (Patched at sub order ∷ ss) = suc (met ss)

-- the steps that neither pad nor store a chunk
abbrev pub others : List Step → List Step
others [] = []
others (Room n ∷ ss) = Room n ∷ others ss
others (Pad a ∷ ss) = others ss
others (Stored os k ∷ ss) = others ss
others (Widened os k ∷ ss) = Widened os k ∷ others ss
others (Copied os ∷ ss) = Copied os ∷ others ss
others (Patched at sub order ∷ ss) = Patched at sub order ∷ others ss

-- the rows of steps, with their octets
abbrev pub rows_in : List Step → List Step
rows_in [] = []
rows_in (Widened os k ∷ ss) = Widened os k ∷ rows_in ss
rows_in (Copied os ∷ ss) = Copied os ∷ rows_in ss
rows_in (Room n ∷ ss) = rows_in ss
rows_in (Pad a ∷ ss) = rows_in ss
rows_in (Stored os k ∷ ss) = rows_in ss
rows_in (Patched at sub order ∷ ss) = rows_in ss

-- ---- moves that are allowed

-- a number that the code of a number has on a value
abbrev pub Begins : Type 0
Begins = ℕ → Val → ℕ

-- a number that is made of something, or 0 where it is not there
abbrev pub of_some : {A : Type 0} → Option A → (A → ℕ) → ℕ
of_some None f = 0
of_some (Some a) f = f a

-- the sum over values
abbrev pub of_each : (Val → ℕ) → Vals → ℕ
of_each f no_more = 0
of_each f (val v vs) = f v + of_each f vs

-- for the value that may be there
abbrev pub of_present : (Val → ℕ) → Val → ℕ
of_present f (present v) = f v
of_present f _ = 0

-- so many moves for the chunks and aligns that a block begins with, if it begins with one
abbrev pub first_run : ℕ → Block → ℕ
first_run m (align a r) = m
first_run m (chunk s ps r) = m
first_run m _ = 0

abbrev mutual
  -- moves behind the chunks and aligns that a block begins with, on its current value: so many for each further run of
  -- them, one for each wide row, and those of the bodies that are run
  pub moves_after : ℕ → Begins → Block → Val → ℕ
  moves_after m e stop v = 0
  moves_after m e (ensure n r) v = first_run m r + moves_after m e r v
  moves_after m e (ensure_row p u x r) v = first_run m r + moves_after m e r v
  moves_after m e (align a r) v = moves_after m e r v
  moves_after m e (chunk s ps r) v = moves_after m e r v
  moves_after m e (row_copy p r) v = first_run m r + moves_after m e r v
  moves_after m e (row_swap p r) v = first_run m r + moves_after m e r v
  moves_after m e (row_wide p o r) v = suc (first_run m r + moves_after m e r v)
  moves_after m e (each p b r) v = of_some (on_some (at p v) elements_in) (of_each (λ w. first_run m b + moves_after m e b w))
      + (first_run m r + moves_after m e r v)
  moves_after m e (switch p cs r) v = of_some (on_some (at p v) arm_in) (λ a. case_moves m e cs a.0 a.1)
      + (first_run m r + moves_after m e r v)
  moves_after m e (if_there p b r) v = of_some (at p v) (of_present (λ w. first_run m b + moves_after m e b w))
      + (first_run m r + moves_after m e r v)
  moves_after m e (call k p r) v = of_some (at p v) (e k) + (first_run m r + moves_after m e r v)
  moves_after m e (patch a s o r) v = first_run m r + moves_after m e r v

  -- those of the body of a number, on a value
  pub case_moves : ℕ → Begins → Cases → ℤ → Val → ℕ
  case_moves m e no_default n w = 0
  case_moves m e (default b) n w = first_run m b + moves_after m e b w
  case_moves m e (case k b cs) n w = if int_eq n k then first_run m b + moves_after m e b w else case_moves m e cs n w

-- so many moves for each run of chunks and aligns that a block begins on a value, and one for each wide row
abbrev pub moves_in : ℕ → Begins → Block → Val → ℕ
moves_in m e b v = first_run m b + moves_after m e b v

-- those of the codes of a list, where calls stand within one another at most so many deep
abbrev pub moves_by : ℕ → (ℕ → Option Block) → ℕ → Begins
moves_by m subs zero k v = 0
moves_by m subs (suc n) k v = of_some (subs k) (λ b. moves_in m (moves_by m subs n) b v)

-- so many moves for each run of chunks and aligns that a send code begins on a value, and one for each wide row
abbrev pub moves_allowed : ℕ → SendCode → Val → ℕ
moves_allowed m code v = moves_in m (moves_by m (sub_at code.subs) deepest) (code_seen code.ops) v
