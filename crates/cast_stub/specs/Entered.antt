-- The calls that a send code runs.
use Rattle.std.specs.Prelude.{ℕ, zero, suc, ℤ, List, [], ◌∷◌, ◌++◌, Option, None, Some, if◌then◌else◌}
use Rattle.std.specs.Ordering.{int_eq}
use Rattle.mint.specs.Values.{Val, present, Vals, no_more, val, arm_in}
use Rattle.cast_stub.specs.declared.send.SendCode.{SendCode}
use Rattle.cast_stub.specs.Block.{Block, stop, ensure, ensure_row, align, chunk, row_copy, row_swap, row_wide, each, switch, if_there, call, patch, Cases, no_default, default, case, code_seen}
use Rattle.cast_stub.specs.Parts.{on_some, at, elements_in}
use Rattle.cast_stub.specs.Subs.{deepest, sub_at}

-- the numbers of the calls that the code of a number runs on a value
abbrev pub Entries : Type 0
Entries = ℕ → Val → List ℕ

-- the numbers that are made of something, or none where it is not there
abbrev pub of_some : {A : Type 0} → Option A → (A → List ℕ) → List ℕ
of_some None f = []
of_some (Some a) f = f a

-- for each of the values
abbrev pub of_each : (Val → List ℕ) → Vals → List ℕ
of_each f no_more = []
of_each f (val v vs) = f v ++ of_each f vs

-- for the value that may be there
abbrev pub of_present : (Val → List ℕ) → Val → List ℕ
of_present f (present v) = f v
of_present f _ = []

abbrev mutual
  -- the numbers of the calls that a block runs on its current value, in order
  pub entered : Entries → Block → Val → List ℕ
  entered e stop v = []
  entered e (ensure n r) v = entered e r v
  entered e (ensure_row p u x r) v = entered e r v
  entered e (align a r) v = entered e r v
  entered e (chunk s ps r) v = entered e r v
  entered e (row_copy p r) v = entered e r v
  entered e (row_swap p r) v = entered e r v
  entered e (row_wide p o r) v = entered e r v
  entered e (each p b r) v = of_some (on_some (at p v) elements_in) (of_each (entered e b)) ++ entered e r v
  entered e (switch p cs r) v = of_some (on_some (at p v) arm_in) (λ a. case_entered e cs a.0 a.1) ++ entered e r v
  entered e (if_there p b r) v = of_some (at p v) (of_present (entered e b)) ++ entered e r v
  entered e (call k p r) v = of_some (at p v) (λ w. k ∷ e k w) ++ entered e r v
  entered e (patch a s o r) v = entered e r v

  -- those of the body of a number, on a value
  pub case_entered : Entries → Cases → ℤ → Val → List ℕ
  case_entered e no_default n w = []
  case_entered e (default b) n w = entered e b w
  case_entered e (case m b cs) n w = if int_eq n m then entered e b w else case_entered e cs n w

-- those of the codes of a list, where calls stand within one another at most so many deep
abbrev pub entered_by : (ℕ → Option Block) → ℕ → Entries
entered_by subs zero k v = []
entered_by subs (suc n) k v = of_some (subs k) (λ b. entered (entered_by subs n) b v)

-- the numbers of the calls that a send code runs on a value, in order
abbrev pub calls_run : SendCode → Val → List ℕ
calls_run code v = entered (entered_by (sub_at code.subs) deepest) (code_seen code.ops) v
