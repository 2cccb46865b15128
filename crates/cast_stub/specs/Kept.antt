-- What a pass keeps of the code that it is given.
use Rattle.std.specs.Prelude.{◌≡◌, ℕ, List, [], ◌∷◌, option_map}
use Rattle.mint.specs.Types.{Ty}
use Rattle.mint.specs.Typed.{IsOf}
use Rattle.mint.specs.Values.{Val}
use Rattle.wire_def.specs.declared.encoding.Encoding.{Encoding}
use Rattle.wire_def.specs.declared.head.Head.{Head}
use Rattle.cast_stub.specs.declared.recv.RecvCode.{RecvCode}
use Rattle.cast_stub.specs.declared.send.SendCode.{SendCode}
use Rattle.cast_stub.specs.Block.{Block, stop, ensure, ensure_row, align, chunk, row_copy, row_swap, row_wide, each, switch, if_there, call, patch, Cases, no_default, default, case, code_seen}
use Rattle.cast_stub.specs.Steps.{Step, Room, Pad, Stored, Widened, Copied, Patched}
use Rattle.cast_stub.specs.Got.{IsSoundCode}
use Rattle.cast_stub.specs.Meaning.{meaning, Cost, cost, AreCovered}
use Rattle.cast_stub.specs.Parts.{IsThere}
use Rattle.cast_stub.specs.Subs.{sent_steps}

abbrev mutual
  -- a block with its ensures left out
  pub unensured : Block → Block
  unensured stop = stop
  unensured (ensure n r) = unensured r
  unensured (ensure_row p u e r) = unensured r
  unensured (align a r) = align a (unensured r)
  unensured (chunk s ps r) = chunk s ps (unensured r)
  unensured (row_copy p r) = row_copy p (unensured r)
  unensured (row_swap p r) = row_swap p (unensured r)
  unensured (row_wide p o r) = row_wide p o (unensured r)
  unensured (each p b r) = each p (unensured b) (unensured r)
  unensured (switch p cs r) = switch p (cases_unensured cs) (unensured r)
  unensured (if_there p b r) = if_there p (unensured b) (unensured r)
  unensured (call k p r) = call k p (unensured r)
  unensured (patch a s o r) = patch a s o (unensured r)

  -- the same of the bodies of a switch
  pub cases_unensured : Cases → Cases
  cases_unensured no_default = no_default
  cases_unensured (default b) = default (unensured b)
  cases_unensured (case m b cs) = case m (unensured b) (cases_unensured cs)

-- steps with the ensured room left out
abbrev pub without_room : List Step → List Step
without_room [] = []
without_room (Room n ∷ ss) = without_room ss
without_room (Pad a ∷ ss) = Pad a ∷ without_room ss
without_room (Stored os k ∷ ss) = Stored os k ∷ without_room ss
without_room (Widened os k ∷ ss) = Widened os k ∷ without_room ss
without_room (Copied os ∷ ss) = Copied os ∷ without_room ss
without_room (Patched at sub order ∷ ss) = Patched at sub order ∷ without_room ss

-- ---- what is kept of code that sends

-- the same octets for every head and value, at every position
abbrev pub SendsTheSame : SendCode → SendCode → Type 0
SendsTheSame given code = (h : Head) (v : Val) (p : ℕ) → meaning code h v p ≡ meaning given h v p

-- the same code, except for ensures
abbrev pub ChangesOnlyEnsures : SendCode → SendCode → Type 0
ChangesOnlyEnsures given code = unensured (code_seen code.ops) ≡ unensured (code_seen given.ops)

-- wherever the given code sends octets, for a value of the type, there is room for all that is appended
abbrev pub IsCoveredFor : Ty → SendCode → SendCode → Type 0
IsCoveredFor t given code = (h : Head) (v : Val) (p : ℕ) → IsOf t v → IsThere (meaning given h v p) → AreCovered (sent_steps code h v) p

-- ---- the same of values of a type, at some positions

-- every position
abbrev pub Anywhere : ℕ → Type 0
Anywhere p = Unit {0}

-- the same octets for every head and value of the type, at such positions
abbrev pub SendsTheSameAt : (ℕ → Type 0) → Ty → SendCode → SendCode → Type 0
SendsTheSameAt At t given code = (h : Head) (v : Val) (p : ℕ) → At p → IsOf t v → meaning code h v p ≡ meaning given h v p

-- where the room that the given code ensures is enough, so it is, at such positions
abbrev pub StaysCoveredAt : (ℕ → Type 0) → Ty → SendCode → SendCode → Type 0
StaysCoveredAt At t given code = (h : Head) (v : Val) (p : ℕ) → At p → IsOf t v → AreCovered (sent_steps given h v) p
    → AreCovered (sent_steps code h v) p

-- as many looks at the buffer
abbrev pub ChecksTheSame : Ty → SendCode → SendCode → Type 0
ChecksTheSame t given code = (h : Head) (v : Val) → IsOf t v
    → option_map (λ (c : Cost). c.checks) (cost code h v) ≡ option_map (λ (c : Cost). c.checks) (cost given h v)

-- ---- what is kept of code that receives

-- sound at such positions wherever the given code is
abbrev pub StaysSoundAt : (ℕ → Type 0) → Encoding → Ty → RecvCode → RecvCode → Type 0
StaysSoundAt At e t given code = IsSoundCode e t At given → IsSoundCode e t At code
