-- What was given of an input, item by item, and how its reading ends.
use Rattle.std.specs.Prelude.{◌≡◌, ◌≢◌, ◌⊎◌, ℕ, ◌<◌, ◌≤◌, Bool, true, false, List, [], ◌∷◌, ◌++◌, length, map, Option, Some, None, Result, Ok, Err, if◌then◌else◌}
use Rattle.std.specs.Io.KnownBytes.{Consumes, IsAtEnd}
use Rattle.kit_base.specs.Limits.{longest_line, most_input}
use Rattle.kit_base.specs.declared.lines.Line.{Line}
use Rattle.kit_base.specs.declared.lines.LineErr.{LineErr}
use Rattle.kit_base.specs.declared.lines.LineErr.TheVariants.{Failed, TooMuch}
use Rattle.kit_base.specs.Lines.{State, Advances, KnowsEnd}
use Rattle.kit_base.specs.Lines as linewise
use Rattle.wire_frames.specs.Cut.{HasGiven}
use Rattle.wire_frames.specs.Reading.{Reader}
use Rattle.wire_frames.specs.Reading as streamwise
use Rattle.flick_top.specs.declared.cutter.Cutter.{Cutter}
use Rattle.flick_top.specs.declared.cutter.Cutter.TheVariants as cutters
use Rattle.flick_top.specs.declared.items.Item.{Item}
use Rattle.flick_top.specs.declared.items.Item.TheVariants as items
use Rattle.flick_top.specs.Items.{Cutting, Begin, by_frames, by_lines, messages_as}
use Rattle.flick_top.specs.Outside.{Input, TakesPrefix}

-- ---- whatever gives the items

-- the whole of the input begins with these items
abbrev pub BeginsWith : Cutting → Input → List Item → Type 0
BeginsWith c before given = (input : List ℕ) → before ≡ Some input → Begin given (c.whole input)

-- at most the greatest input was taken
abbrev pub TakesWithin : Input → Input → Type 0
TakesWithin before after = (taken : List ℕ) × Consumes before after taken × (length taken ≤ most_input)

-- these items were given
pub record HasBegun (c : Cutting) (before after : Input) (given : List Item) : Type 0 where
  pub begins : BeginsWith c before given
  pub taken : TakesWithin before after

-- these items are all, and the input is at its end, or nothing is read behind what was taken
pub record HasEnded (c : Cutting) (before after : Input) (given : List Item) : Type 0 where
  pub all : (input : List ℕ) → before ≡ Some input → c.whole input ≡ given
  pub taken : TakesWithin before after
  pub end : IsAtEnd after ⊎ ((taken : List ℕ) × Consumes before after taken × (c.stops taken ≡ true))

-- these items were given, and the input could not be read on
pub record HasFailed (c : Cutting) (before after : Input) (given : List Item) (e : LineErr) : Type 0 where
  pub begins : BeginsWith c before given
  pub taken : TakesPrefix before after
  -- where the source failed, they are those that ended in what was taken
  pub failed : e ≡ Failed → (taken : List ℕ) × Consumes before after taken × (c.ended taken ≡ given)
  pub within : e ≢ TooMuch → TakesWithin before after
  pub more : e ≡ TooMuch → (taken : List ℕ) × Consumes before after taken × (most_input < length taken)

-- ---- lines, and the parts of a stream

-- a reader of lines that has taken nothing
abbrev pub fresh : ℕ → ℕ → State
fresh n most = record { longest = n; most = most; kept = []; skips = false; ended = false; taken = 0; error = None }

-- lines were given by a reader of lines
pub record AreLines (c : Cutting) (t : State) (before after : Input) (given : List Item) : Type 0 where
  pub cut : c ≡ by_lines
  pub lines : (ls : List Line) × (given ≡ map items.Line ls) × Advances before after (fresh longest_line most_input) t ls
  pub knows_end : KnowsEnd t after
  pub fine : t.error ≡ None
  pub within : t.taken ≤ t.most

-- messages were given by a reader of a stream
pub record AreMessages (c : Cutting) (r : Reader) (before after : Input) (given : List Item) : Type 0 where
  pub cut : c ≡ by_frames r.back
  pub messages : (fed : List ℕ) × (ms : List (List ℕ)) × (given ≡ messages_as ms) × Consumes before after fed
      × HasGiven r.back fed ms r.kept × (r.taken ≡ length fed)
  pub most : r.most ≡ most_input
  pub within : r.taken ≤ r.most

-- the same, until the last part was given
abbrev pub AreParts : Bool → Cutting → Reader → Input → Input → List Item → Type 0
AreParts true c r before after given = HasEnded c before after given
AreParts false c r before after given = AreMessages c r before after given

-- these items were given of the input by what gives them
abbrev pub IsGiven : Cutting → Cutter → Input → Input → List Item → Type 0
IsGiven c (cutters.Lines t) before after given = AreLines c t before after given
IsGiven c (cutters.Messages r) before after given = AreParts r.over c r before after given

-- what a call with this answer has done, whatever items were given before it
abbrev pub Goes : Cutter → Cutter → Input → Input → Result (Option Item) LineErr → Type 0
Goes old new now after (Ok (Some item)) = (c : Cutting) (before : Input) (given : List Item)
    → IsGiven c old before now given → IsGiven c new before after (given ++ item ∷ [])
Goes old new now after (Ok None) = (c : Cutting) (before : Input) (given : List Item)
    → IsGiven c old before now given → HasEnded c before after given
Goes old new now after (Err e) = (c : Cutting) (before : Input) (given : List Item)
    → IsGiven c old before now given → HasFailed c before after given e

-- a measure that falls with each item
abbrev pub work : Cutter → ℕ
work (cutters.Lines t) = linewise.work t
work (cutters.Messages r) = streamwise.work r
