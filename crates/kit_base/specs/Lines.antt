-- The lines of an input, and what a reader of lines keeps.
use Rattle.std.specs.Prelude.{◌≡◌, ◌≢◌, ℕ, ◌+◌, ◌-◌, ◌*◌, Bool, true, List, [], ◌∷◌, ◌++◌, length, take, slice_index, if◌then◌else◌, ◌==◌, nat_lt, All, Option, None, Result, Ok, Err}
use Rattle.std.specs.Io.KnownBytes.{Consumes, IsAtEnd}
use Rattle.kit_base.specs.declared.lines.Line.{Line}
use Rattle.kit_base.specs.declared.lines.Line.TheVariants.{Text, Long, End}
use Rattle.kit_base.specs.declared.lines.LineErr.{LineErr}
use Rattle.kit_base.specs.declared.lines.Cut.{Cut}
use Rattle.kit_base.specs.declared.lines.Cut.TheVariants.{Found, NoEnd}

-- a line without the carriage return at its end
abbrev pub chomp : List ℕ → List ℕ
chomp octets = if slice_index octets (length octets - 1) == 13 then take (length octets - 1) octets else octets

-- the answer for a line without a carriage return at its end: none where it is empty
abbrev pub answer_of : ℕ → List ℕ → List Line
answer_of longest [] = []
answer_of longest (x ∷ xs) = (if nat_lt longest (length (x ∷ xs)) then Long else Text (x ∷ xs)) ∷ []

-- the answer for a line that may still have its carriage return
abbrev pub line_of : ℕ → List ℕ → List Line
line_of longest octets = answer_of longest (chomp octets)

-- the answers for a line that was begun and the octets after it
abbrev pub lines_from : ℕ → List ℕ → List ℕ → List Line
lines_from longest begun [] = line_of longest begun
lines_from longest begun (x ∷ xs) =
    if x == 10 then line_of longest begun ++ lines_from longest [] xs
    else lines_from longest (begun ++ x ∷ []) xs

-- the lines of an input
abbrev pub lines : ℕ → List ℕ → List Line
lines longest octets = lines_from longest [] octets

-- the lines after the rest of a line that is too long
abbrev pub lines_after : ℕ → List ℕ → List Line
lines_after longest [] = []
lines_after longest (x ∷ xs) = if x == 10 then lines longest xs else lines_after longest xs

-- a reader of lines: its two limits, the octets that it keeps, and how far it has come
pub record State : Type 0 where
  pub longest : ℕ
  pub most : ℕ
  -- octets taken and not answered yet
  pub kept : List ℕ
  -- inside a line that is too long
  pub skips : Bool
  -- the source gave its end
  pub ended : Bool
  pub taken : ℕ
  pub error : Option LineErr

-- the lines to come where these octets follow those that are kept
abbrev pub pending : State → List ℕ → List Line
pending s more = if s.skips then Long ∷ lines_after s.longest (s.kept ++ more) else lines s.longest (s.kept ++ more)

-- octets without a line feed
abbrev pub HasNoEnd : List ℕ → Type 0
HasNoEnd octets = All (λ x. x ≢ 10) octets

-- two states between which these octets were taken and these lines answered, whatever follows before the end
pub record Passed (old new : State) (got : List ℕ) (answered : List Line) : Type 0 where
  pub count : new.taken ≡ old.taken + length got
  pub longest : new.longest ≡ old.longest
  pub most : new.most ≡ old.most
  pub ended : old.ended ≡ true → (got ≡ []) × (new.ended ≡ true)
  pub answers : (more : List ℕ) → (new.ended ≡ true → more ≡ []) → pending old (got ++ more) ≡ answered ++ pending new more

-- two states of a source and of its reader: the octets taken are those that the source gave
abbrev pub Advances : Option (List ℕ) → Option (List ℕ) → State → State → List Line → Type 0
Advances before after old new answered = (got : List ℕ) × Consumes before after got × Passed old new got answered

-- the line that a call answers: none at the end, and none with an error
abbrev pub answered : Result Line LineErr → List Line
answered (Ok (Text octets)) = Text octets ∷ []
answered (Ok Long) = Long ∷ []
answered (Ok End) = []
answered (Err e) = []

-- a reader that has seen the end only where the source has nothing left
abbrev pub KnowsEnd : State → Option (List ℕ) → Type 0
KnowsEnd s left = s.ended ≡ true → IsAtEnd left

-- the answer for the line that a cut found
abbrev pub line_in : Cut → Option Line
line_in (Found o) = o
line_in NoEnd = None

-- a cut that found the end of a line
abbrev pub IsFound : Cut → Type 0
IsFound (Found o) = Unit {0}
IsFound NoEnd = ⊥

-- a measure that falls with each line: twice what may still be read, what is kept, and two flags
abbrev pub work : State → ℕ
work s = 2 * (s.most + 2 - s.taken) + length s.kept + (if s.ended then 0 else 1) + (if s.skips then 1 else 0)
