-- What a send code does: the list of its steps.
use Rattle.std.specs.Prelude.{ℕ, ◌+◌, ◌*◌, ℤ, List, [], ◌∷◌, ◌++◌, length, reverse, Option, None, Some, Bool, nat_eq, if◌then◌else◌, ◌||◌}
use Rattle.std.specs.Ordering.{int_eq}
use Rattle.mint.specs.declared.kind.Kind.{Kind}
use Rattle.mint.specs.Values.{Val, absent, present, Vals, no_more, val, row_in, arm_in}
use Rattle.mint.specs.Row.{octets_of, image_of}
use Rattle.wire_def.specs.declared.head.Order.{Order}
use Rattle.wire_def.specs.declared.head.Head.{Head}
use Rattle.cast_stub.specs.declared.put.Put.{Put}
use Rattle.cast_stub.specs.declared.send.SendOp.{SendOp}
use Rattle.cast_stub.specs.Parts.{on_some, at, elements_in, length_in}
use Rattle.cast_stub.specs.Puts.{word, filled}
use Rattle.cast_stub.specs.Block.{Block, stop, ensure, ensure_row, align, chunk, row_copy, row_swap, row_wide, each, switch, if_there, call, patch, Cases, no_default, default, case, code_seen, cases_seen}

-- a step of a send code
pub data Step : Type 0 where
  -- so many octets are ensured
  Room : ℕ → Step
  -- zeros up to a multiple
  Pad : ℕ → Step
  -- octets, by so many stores
  Stored : List ℕ → ℕ → Step
  -- the octets of the numbers of a row, by so many stores
  Widened : List ℕ → ℕ → Step
  -- the octets of a row
  Copied : List ℕ → Step
  -- four octets at a place: the length so far, less a number
  Patched : ℕ → ℕ → Order → Step

-- steps, if they are defined
abbrev pub Steps : Type 0
Steps = Option (List Step)

-- steps and the steps after them, if both are defined
abbrev pub both : Steps → Steps → Steps
both None b = None
both (Some a) None = None
both (Some a) (Some b) = Some (a ++ b)

-- whether a number is a width, or an alignment
abbrev pub is_width : ℕ → Bool
is_width w = nat_eq w 1 || nat_eq w 2 || nat_eq w 4 || nat_eq w 8

-- a chunk: its octets, by a store for each put
abbrev pub chunk_steps : ℕ → List Put → Head → Val → Steps
chunk_steps size ps h v = on_some (filled size ps h v) (λ o. Some (Stored o (length ps) ∷ []))

-- zeros up to a multiple, where that is a width
abbrev pub align_steps : ℕ → Steps
align_steps a = if is_width a then Some (Pad a ∷ []) else None

-- the length at a path, multiplied and raised: so many octets are ensured
abbrev pub row_room : List ℕ → ℕ → ℕ → Val → Steps
row_room p u e v = on_some (on_some (at p v) length_in) (λ n. Some (Room (n * u + e) ∷ []))

-- ---- rows as a block

-- an image, the octets of each number in the other order
abbrev pub swapped : Kind → List ℤ → List ℕ
swapped k [] = []
swapped k (n ∷ ns) = reverse (octets_of k n) ++ swapped k ns

-- each number in four octets
abbrev pub wide : Order → List ℤ → Option (List ℕ)
wide o [] = Some []
wide o (n ∷ ns) = on_some (word 4 o n) (λ a. on_some (wide o ns) (λ b. Some (a ++ b)))

-- the image of the row at a path
abbrev pub copy_steps : List ℕ → Val → Steps
copy_steps p v = on_some (on_some (at p v) row_in) (λ r. Some (Copied (image_of r.0 r.1) ∷ []))

-- the same with the octets of each number in the other order
abbrev pub swap_steps : List ℕ → Val → Steps
swap_steps p v = on_some (on_some (at p v) row_in) (λ r. Some (Copied (swapped r.0 r.1) ∷ []))

-- the numbers of the row at a path, each in four octets
abbrev pub wide_steps : List ℕ → Order → Val → Steps
wide_steps p o v = on_some (on_some (at p v) row_in) (λ r. on_some (wide o r.1) (λ os. Some (Widened os (length r.1) ∷ [])))

-- ---- operations with bodies

-- what a call of a number does with a value
abbrev pub Calls : Type 0
Calls = ℕ → Val → Steps

-- for each of the values
abbrev pub over : (Val → Steps) → Vals → Steps
over f no_more = Some []
over f (val v vs) = both (f v) (over f vs)

-- for the value that may be there
abbrev pub if_present : (Val → Steps) → Val → Steps
if_present f absent = Some []
if_present f (present v) = f v
if_present f _ = None

abbrev mutual
  -- the steps of a block on its current value
  pub steps : Calls → Head → Block → Val → Steps
  steps c h stop v = Some []
  steps c h (ensure n r) v = both (Some (Room n ∷ [])) (steps c h r v)
  steps c h (ensure_row p u e r) v = both (row_room p u e v) (steps c h r v)
  steps c h (align a r) v = both (align_steps a) (steps c h r v)
  steps c h (chunk s ps r) v = both (chunk_steps s ps h v) (steps c h r v)
  steps c h (row_copy p r) v = both (copy_steps p v) (steps c h r v)
  steps c h (row_swap p r) v = both (swap_steps p v) (steps c h r v)
  steps c h (row_wide p o r) v = both (wide_steps p o v) (steps c h r v)
  steps c h (each p b r) v = both (on_some (on_some (at p v) elements_in) (over (steps c h b))) (steps c h r v)
  steps c h (switch p cs r) v = both (on_some (on_some (at p v) arm_in) (λ a. case_steps c h cs a.0 a.1)) (steps c h r v)
  steps c h (if_there p b r) v = both (on_some (at p v) (if_present (steps c h b))) (steps c h r v)
  steps c h (call k p r) v = both (on_some (at p v) (c k)) (steps c h r v)
  steps c h (patch a s o r) v = both (Some (Patched a s o ∷ [])) (steps c h r v)

  -- those of the body of a number, on a value
  pub case_steps : Calls → Head → Cases → ℤ → Val → Steps
  case_steps c h no_default n w = None
  case_steps c h (default b) n w = steps c h b w
  case_steps c h (case m b cs) n w = if int_eq n m then steps c h b w else case_steps c h cs n w

-- ---- the same of operations in a list

-- the steps of operations
abbrev pub code_steps : Calls → Head → List SendOp → Val → Steps
code_steps c h ops v = steps c h (code_seen ops) v

-- those of a loop over the part at a path
abbrev pub each_steps : Calls → Head → List ℕ → List SendOp → Val → Steps
each_steps c h p ops v = on_some (on_some (at p v) elements_in) (over (code_steps c h ops))

-- those of a body on the value that may be at a path
abbrev pub some_steps : Calls → Head → List ℕ → List SendOp → Val → Steps
some_steps c h p ops v = on_some (at p v) (if_present (code_steps c h ops))

-- those of the body for the arm at a path
abbrev pub switch_steps : Calls → Head → List ℕ → List (ℤ × List SendOp) → Option (List SendOp) → Val → Steps
switch_steps c h p cases other v = on_some (on_some (at p v) arm_in) (λ a. case_steps c h (cases_seen cases other) a.0 a.1)
