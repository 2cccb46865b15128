-- The replies that a file gives for the operations of a binding: a reply record on each line that is not empty.
use Rattle.std.specs.Prelude.{◌≡◌, ◌⊎◌, ◌<◌, ◌==◌, ℕ, ◌+◌, List, [], ◌∷◌, length, map, replicate, slice_index_or, slice_set, Option, Some, None, option_map, Result, Ok, Err}
use Rattle.std.specs.List.{slice_split}
use Rattle.kit_base.specs.Lines.{chomp}
use Rattle.mint.specs.declared.value.Value.{Value}
use Rattle.mint.specs.Typed.{IsWellTyped}
use Rattle.mint.specs.Values.{Val, seen}
use Rattle.pres.specs.Bindings.{Binding}
use Rattle.serde_json.specs.Data.{Data}
use Rattle.json_shape.specs.declared.errors.RecordErr.{RecordErr}
use Rattle.json_shape.specs.declared.records.RequestRec.{RequestRec}
use Rattle.json_shape.specs.Presents.{Presents}
use Rattle.json_shape.specs.Records.{Begun}
use Rattle.json_shape.specs.Replies.{given_of}
use Rattle.skeleton.specs.TableSkeleton.{Places}
use Rattle.flick_engine.specs.Received.{IsShort}
use Rattle.flick_engine.specs.Replies.{reply_type, reply_message}
use Rattle.flick_lines.specs.Marshalled.{tree_of}
use Rattle.flick_serve.specs.declared.given.WrongLine.{WrongLine}

-- ---- the reply on a line

-- a record that was begun presents this reply to this operation, whose message, of one length in each version, is not too long
abbrev pub IsReplyOf : Binding → Result Begun RecordErr → ℕ → Val → Type 0
IsReplyOf b (Err e) op v = ⊥
IsReplyOf b (Ok r) op v = (op ≡ r.op) × Presents r.face r.tree v × IsShort (reply_message b 0 r.op r.head v)

-- the same of a tree as a reply record without a head number, where there is a tree
abbrev pub IsInTree : Binding → Option Data → ℕ → Val → Type 0
IsInTree b None op v = ⊥
IsInTree b (Some tree) op v = IsReplyOf b (given_of b tree) op v

-- a line gives this reply to this operation
abbrev pub IsGiven : Binding → List ℕ → ℕ → Val → Type 0
IsGiven b line op v = IsInTree b (tree_of line) op v

-- ---- the replies of a file

-- replies to some of the operations, by their numbers
abbrev pub Given : Type 0
Given = List (Option Val)

-- the reply to an operation, if one is given
abbrev pub given_at : Given → ℕ → Option Val
given_at g op = slice_index_or g op None

-- with a line, the replies so far become these: an empty line adds none, another one a reply to an operation that has none yet
abbrev pub Adds : Binding → Given → List ℕ → Given → Type 0
Adds b g [] more = more ≡ g
Adds b g (o ∷ os) more =
    (op : ℕ) × (v : Val) × IsGiven b (o ∷ os) op v × (given_at g op ≡ None) × (more ≡ slice_set g op (Some v))

-- what lines from number k on give beside the replies so far: all replies, or the number of the first line that adds none so
abbrev pub Give : Binding → ℕ → Given → List (List ℕ) → Result Given ℕ → Type 0
Give b k g [] x = x ≡ Ok g
Give b k g (l ∷ ls) x =
    ((more : Given) × Adds b g (chomp l) more × Give b (k + 1) more ls x)
    ⊎ (((more : Given) → ¬ Adds b g (chomp l) more) × (x ≡ Err k))

-- the lines of a file, empty ones too, each without its line feed
abbrev pub lines_of : List ℕ → List (List ℕ)
lines_of text = slice_split (λ o. o == 10) text

-- what a file gives: replies, or the number of its first line that is wrong, counted from 1
abbrev pub FileGives : Binding → List ℕ → Result Given ℕ → Type 0
FileGives b text x = Give b 1 (replicate (length b.ops) None) (lines_of text) x

-- ---- what is read of it

-- the replies of a table, each as its plain tree
abbrev pub given_in : Places → Given
given_in places = map (λ (r : Option Value). option_map seen r) places

-- the replies of a table, or the number of a wrong line
abbrev pub given_by : Result Places WrongLine → Result Given ℕ
given_by (Ok places) = Ok (given_in places)
given_by (Err line) = Err line.0

-- the replies of a table, unless there is a wrong line
abbrev pub unless_wrong : Option WrongLine → Places → Result Places WrongLine
unless_wrong None places = Ok places
unless_wrong (Some line) places = Err line

-- the message of a record's reply
abbrev pub message_of : Binding → RequestRec → List ℕ
message_of b r = reply_message b 0 r.op r.head (seen r.value)

-- a record that was found is one of these replies, or none is there
abbrev pub Finds : (ℕ → Val → Type 0) → Option RequestRec → Type 0
Finds Is (Some r) = Is r.op (seen r.value)
Finds Is None = (op : ℕ) (v : Val) → ¬ Is op v

-- a record is of an operation of the binding, and its value is a reply of that
pub record IsFitting (b : Binding) (r : RequestRec) : Type 0 where
  pub op : r.op < length b.ops
  pub typed : IsWellTyped (reply_type b r.op) (seen r.value)
