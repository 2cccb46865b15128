-- The parts of a stream, and what a reader of them keeps.
use Rattle.std.specs.Prelude.{◌≡◌, ◌≢◌, ℕ, ◌+◌, ◌-◌, ◌*◌, ◌<◌, ◌≤◌, Bool, true, false, List, [], ◌∷◌, ◌++◌, length, map, if◌then◌else◌, Option, Some, None, Result, Ok, Err}
use Rattle.std.specs.Io.KnownBytes.{Consumes, IsAtEnd}
use Rattle.kit_base.specs.declared.lines.LineErr.{LineErr}
use Rattle.kit_base.specs.declared.lines.LineErr.TheVariants as errors
use Rattle.wire_def.specs.declared.encoding.Back.{Back}
use Rattle.wire_frames.specs.declared.frames.FrameErr.{FrameErr}
use Rattle.wire_frames.specs.declared.messages.Part.{Part}
use Rattle.wire_frames.specs.declared.messages.Part.TheVariants as part
use Rattle.wire_frames.specs.Cut.{HasGiven, cut}
use Rattle.wire_frames.specs.First.{First, whole, bad, more, first}

-- ---- a stream

-- what is behind the last message of a stream: why there will be no more, or the beginning of a message
abbrev pub ending : Option FrameErr → List ℕ → List Part
ending (Some fault) rest = part.Fault fault ∷ []
ending None [] = []
ending None (x ∷ rest) = part.Cut ∷ []

-- the parts of a stream: its messages, and what is behind them
abbrev pub parts : Back → List ℕ → List Part
parts back s = map part.Message (cut back s).messages ++ ending (cut back s).fault (cut back s).rest

-- a part with which a stream ends
abbrev pub is_end : Part → Bool
is_end (part.Message message) = false
is_end (part.Fault fault) = true
is_end part.Cut = true

-- what is found at the front of a stream without reading on
abbrev pub found_in : First → Option Part
found_in (whole message used) = Some (part.Message message)
found_in (bad fault) = Some (part.Fault fault)
found_in more = None

-- ---- a reader

-- a reader: its back end, what it keeps, how many octets were taken, how many may be, and whether it has given the end
pub record Reader : Type 0 where
  pub back : Back
  pub kept : List ℕ
  pub taken : ℕ
  pub most : ℕ
  pub over : Bool

-- between two states these octets were taken and these messages given: where the messages before are the first of all that was taken, so
-- are these after them
pub record Passes (got : List ℕ) (messages : List (List ℕ)) (old new : Reader) : Type 0 where
  pub count : new.taken ≡ old.taken + length got
  pub most : new.most ≡ old.most
  pub back : new.back ≡ old.back
  pub given : (fed : List ℕ) (given : List (List ℕ)) → HasGiven old.back fed given old.kept
      → HasGiven old.back (fed ++ got) (given ++ messages) new.kept

-- the octets that were taken are those that the source gave
abbrev pub Advances : Option (List ℕ) → Option (List ℕ) → Reader → Reader → List (List ℕ) → Type 0
Advances before after old new messages = (got : List ℕ) × Consumes before after got × Passes got messages old new

-- no more octets were taken than may be
abbrev pub IsWithin : Reader → Type 0
IsWithin r = r.taken ≤ r.most

-- what was done by a call that gives this part, or none
abbrev pub Gives : Option (List ℕ) → Option (List ℕ) → Reader → Reader → Option Part → Type 0
Gives before after old new (Some (part.Message m)) = Advances before after old new (m ∷ []) × IsWithin new × (new.over ≡ false)
Gives before after old new (Some (part.Fault e)) =
    Advances before after old new [] × IsWithin new × (new.over ≡ true) × (first new.back new.kept ≡ bad e)
Gives before after old new (Some part.Cut) =
    Advances before after old new [] × IsWithin new × (new.over ≡ true) × (first new.back new.kept ≡ more) × (new.kept ≢ [])
    × IsAtEnd after
Gives before after old new None = Advances before after old new [] × IsWithin new × (new.kept ≡ []) × IsAtEnd after

-- what was done by a call that ends with this error
abbrev pub Stops : Option (List ℕ) → Option (List ℕ) → Reader → Reader → LineErr → Type 0
Stops before after old new errors.Failed = Advances before after old new [] × IsWithin new × (first new.back new.kept ≡ more)
Stops before after old new errors.TooMuch = (got : List ℕ) × Consumes before after got × (old.most < old.taken + length got)
Stops before after old new errors.NoMemory = (got : List ℕ) × Consumes before after got × (old.taken + length got ≤ old.most)

-- what was done by a call with this answer
abbrev pub Reads : Option (List ℕ) → Option (List ℕ) → Reader → Reader → Result (Option Part) LineErr → Type 0
Reads before after old new (Ok given) = Gives before after old new given
Reads before after old new (Err error) = Stops before after old new error

-- a measure that falls with each part: twice what may still be read, what is kept, and whether the end is to come
abbrev pub work : Reader → ℕ
work r = 2 * (r.most + 2 - r.taken) + length r.kept + (if r.over then 0 else 1)
