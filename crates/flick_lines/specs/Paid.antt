-- What becomes of a buffer where a line is answered: what it spends, and what it then holds.
use Rattle.std.specs.Prelude.{◌≡◌, ◌≤◌, ℕ, List, length, Option, Some, None, Result, Ok, Err}
use Rattle.kit_base.specs.Limits.{longest_message}
use Rattle.mint.specs.Values.{Val}
use Rattle.wire_def.specs.declared.head.Head.{Head}
use Rattle.raw_buf.specs.Buf.{Buf, none}
use Rattle.cast_stub.specs.Meaning.{Cost}
use Rattle.stub_codes.specs.Stubs.{Coded, sent_cost}
use Rattle.serde_json.specs.Data.{Data}
use Rattle.json_shape.specs.declared.errors.RecordErr.{RecordErr}
use Rattle.json_shape.specs.Presents.{Presents}
use Rattle.json_shape.specs.Records.{Begun}
use Rattle.json_shape.specs.Replies.{reply_of}
use Rattle.json_shape.specs.Requests.{request_of}
use Rattle.flick_engine.specs.Costs.{IsRaised, answer_cost}
use Rattle.flick_engine.specs.Messages.{message}
use Rattle.flick_engine.specs.Replies.{reply_message}
use Rattle.flick_lines.specs.declared.verb.Verb.{Verb}
use Rattle.flick_lines.specs.declared.verb.Verb.TheVariants.{Marshal, Unmarshal, Reply, Unreply, Count}
use Rattle.flick_lines.specs.Marshalled.{Beginning, Texts, tree_of}

-- what becomes of a buffer where an operation, a head and a value are answered
abbrev pub Runs : Type 1
Runs = ℕ → Head → Val → Buf → Buf → Type 0

-- what the code costs that makes the message of an operation, a head and a value, where there is the code
abbrev pub Costs : Type 0
Costs = ℕ → Head → Val → Option Cost

-- a message of at most 4,194,304 octets is what the buffer holds, and the code that makes it was run: its counts are those of the
-- code, and what the buffer spent rose by exactly that
abbrev pub by_code : Texts → Costs → Runs
by_code message cost_of op h v old new =
    length (message op h v) ≤ longest_message
    → (new.done ≡ message op h v) × IsRaised (cost_of op h v) none new.tally × IsRaised (cost_of op h v) old.spent new.spent

-- the message of a call, by the code of its operation
abbrev pub call_by_code : Coded → Runs
call_by_code c op h v old new = by_code (message c.binding c.minor) (sent_cost c.stubs) op h v old new

-- the message of a reply, by the code of its arm
abbrev pub reply_by_code : Coded → Runs
reply_by_code c op h v old new = by_code (reply_message c.binding c.minor) (answer_cost c.stubs c.minor) op h v old new

-- each value that the record presents was sent so; where there is none, nothing became of the buffer
abbrev pub IsPaidOnce : Runs → Begun → Buf → Buf → Type 0
IsPaidOnce run r old new =
    ((v : Val) → Presents r.face r.tree v → run r.op r.head v old new) × (((v : Val) → ¬ Presents r.face r.tree v) → new ≡ old)

-- the same of a record that begins so, or is none
abbrev pub IsPaidRecord : Runs → Result Begun RecordErr → Buf → Buf → Type 0
IsPaidRecord run (Err e) old new = new ≡ old
IsPaidRecord run (Ok r) old new = IsPaidOnce run r old new

-- the same of a tree, by what trees begin
abbrev pub IsPaidTree : Runs → Beginning → Option Data → Buf → Buf → Type 0
IsPaidTree run begun None old new = new ≡ old
IsPaidTree run begun (Some tree) old new = IsPaidRecord run (begun tree) old new

-- what becomes of the buffer where a verb answers the octets of a line; messages are read without it
abbrev pub IsPaid : Verb → Coded → List ℕ → Buf → Buf → Type 0
IsPaid Marshal c line old new = IsPaidTree (call_by_code c) (request_of c.binding) (tree_of line) old new
IsPaid Unmarshal c line old new = new ≡ old
IsPaid Reply c line old new = IsPaidTree (reply_by_code c) (reply_of c.binding) (tree_of line) old new
IsPaid Unreply c line old new = new ≡ old
IsPaid Count c line old new = IsPaidTree (call_by_code c) (request_of c.binding) (tree_of line) old new
