-- The promise of `flick`: what was done, and what its status says of what it wrote, took, left, sent and met outside.
use Rattle.std.specs.Prelude.{◌≡◌, ◌≢◌, ◌⊎◌, ◌↔◌, ℕ, ◌<◌, ◌≤◌, true, List, [], ◌++◌, length, take, Option, None, Some, IfSome}
use Rattle.std.specs.Io.KnownBytes.{Appends, Consumes, IsAtEnd}
use Rattle.kit_base.specs.Limits.{most_input}
use Rattle.raw_buf.specs.Buf.{Buf}
use Rattle.stub_codes.specs.Stubs.{Coded, IsCoded}
use Rattle.flick_check.specs.Checked.{YesIsSent}
use Rattle.flick_lines.specs.Sent.{IsSpentBy}
use Rattle.flick_top.specs.Answer.{Answering}
use Rattle.flick_top.specs.Dispatch.{Files, Does}
use Rattle.flick_top.specs.Command.{command_of, AnswersItems, ChecksStubs, ReadsFiles, SendsReplies}
use Rattle.flick_top.specs.Made.{codes_of}
use Rattle.flick_top.specs.Outside.{Input, Held, Fails}
use Rattle.flick_top.specs.Status.{refused, usage, file_refused, source_failed, sink_failed, shelf_failed, out_of_memory, too_much}
use Rattle.flick_top.specs.Task.{Task, items_of, ended_of, Stops, written, out_of, sent_of, exact_of}

-- what was done of a task, whose answers are f, by the status
pub record Done (task : Task) (f : Answering) (made : Option Coded) (left left' : Input) (before now : ℕ) (held held' : Held)
    (old new : Buf) (status : ℕ) : Type 0 where
  -- a status up to that of a refused file is that of the output, and exactly this was appended, whatever counts of faults rose
  pub output : status ≤ file_refused → (input : List ℕ) → left ≡ Some input
      → (status ≡ (out_of task f input).status) × Appends held held' (out_of task f input).octets
  -- in any case a prefix of the output was appended
  pub prefix : (input : List ℕ) → left ≡ Some input
      → (prefix rest : List ℕ) × ((out_of task f input).octets ≡ prefix ++ rest) × Appends held held' prefix
  -- unless the sink failed, it is the text with whole answers to the first items
  pub whole : status ≢ sink_failed → (input : List ℕ) → left ≡ Some input
      → (n : ℕ) × Appends held held' (written task f (take n (items_of task.feed input)))
  -- where the source failed, with the answers to the items that ended in the octets taken
  pub ended : status ≡ source_failed → (input : List ℕ) → left ≡ Some input
      → (taken : List ℕ) × Consumes left left' taken × Appends held held' (written task f (ended_of task.feed taken))
  -- where no items are answered, nothing was taken of the source, which has not failed, nor given too much
  pub unread : task.feed ≡ None → Consumes left left' [] × (before ≡ now) × (status ≢ source_failed) × (status ≢ too_much)
  -- where they are, and the work was done, the input is at its end, or nothing more is read after what was taken
  pub at_end : task.feed ≢ None → status ≤ refused
      → IsAtEnd left' ⊎ ((taken : List ℕ) × Consumes left left' taken × Stops task.feed taken)
  -- the engine of the task is left, and each of its codes is that of its operation
  pub engine : made ≡ task.engine
  pub coded : IfSome made IsCoded
  -- where the work was done, the buffer was spent by what was sent
  pub spent : status ≤ refused → (input : List ℕ) → left ≡ Some input → IsSpentBy (exact_of task.feed) (sent_of task f input) old new

-- the task that words and files define was carried out, unless the command failed first; its codes are those of the engine left
abbrev pub Works : Option Coded → List (List ℕ) → Files → Input → Input → ℕ → ℕ → Held → Held → Buf → Buf → ℕ → Type 0
Works made words files left left' before now held held' old new status = Fails left left' held held' status
    ⊎ Does (codes_of made) words files (λ task f. Done task f made left left' before now held held' old new status)

-- where stubs are checked, each code that gets a yes beside the codes of the engine that is left sends the messages of requests, inside
-- ensured space
abbrev pub YesIsKept : Option Coded → List (List ℕ) → Type 0
YesIsKept made words = ChecksStubs (command_of words) → IfSome made YesIsSent

-- where replies are sent, the engine that is left has the codes of replies
abbrev pub RepliesAreCoded : Option Coded → List (List ℕ) → Type 0
RepliesAreCoded made words = SendsReplies (command_of words) → IfSome made (λ e. e.answers ≡ true)

-- the words name no command: exactly then this status comes
abbrev pub IsUsage : List (List ℕ) → ℕ → Type 0
IsUsage words status = (status ≡ usage) ↔ (command_of words ≡ None)

-- without a command, and where the shelf failed, no engine is left, and nothing was appended
abbrev pub LeavesNothing : Option Coded → Held → Held → ℕ → Type 0
LeavesNothing made held held' status = (status ≡ usage) ⊎ (status ≡ shelf_failed) → (made ≡ None) × Appends held held' []

-- the shelf fails only where the words name a file
abbrev pub NeedsFile : List (List ℕ) → ℕ → Type 0
NeedsFile words status = status ≡ shelf_failed → ReadsFiles (command_of words)

-- a status comes only where the words name a command that answers the items of its input
abbrev pub NeedsItems : ℕ → List (List ℕ) → ℕ → Type 0
NeedsItems of words status = status ≡ of → AnswersItems (command_of words)

-- too much was given only where more than the greatest input was taken
abbrev pub TakesMore : Input → Input → ℕ → Type 0
TakesMore left left' status = status ≡ too_much → (taken : List ℕ) × Consumes left left' taken × (most_input < length taken)

-- with any other status at most the greatest input was taken
abbrev pub TakesAtMost : Input → Input → ℕ → Type 0
TakesAtMost left left' status = status ≢ too_much → (taken : List ℕ) × Consumes left left' taken × (length taken ≤ most_input)

-- without a command, and where a file was refused or the shelf failed, nothing was taken
abbrev pub TakesNothing : Input → Input → ℕ → Type 0
TakesNothing left left' status =
    (status ≡ usage) ⊎ ((status ≡ file_refused) ⊎ (status ≡ shelf_failed)) → Consumes left left' []

-- where the source says its octets, at most the greatest input was taken and no count of faults rose, the work came to its end, or
-- memory ran out
abbrev pub Completes : Input → Input → Type 0 → Type 0 → Type 0 → ℕ → Type 0
Completes left left' SourceRose SinkRose ShelfRose status =
    (input : List ℕ) → left ≡ Some input → (taken : List ℕ) → Consumes left left' taken → length taken ≤ most_input
    → (SourceRose → ⊥) → (SinkRose → ⊥) → (ShelfRose → ⊥) → (status ≤ file_refused) ⊎ (status ≡ out_of_memory)
