-- Laws of what is written.
use Rattle.std.specs.Prelude.{◌≡◌, ◌⊎◌, ℕ, ◌≤◌, List, ◌++◌, length, Option, Some}
use Rattle.std.specs.Io.KnownBytes.{Appends}
use Rattle.kit_base.specs.Causes.{Rose}
use Rattle.kit_base.specs.Limits.{most_input}
use Rattle.wire_def.specs.declared.encoding.Back.{Back}
use Rattle.raw_buf.specs.Buf.{Buf}
use Rattle.stub_codes.specs.declared.stub.Stub.{Stub}
use Rattle.stub_codes.specs.Stubs.{Coded}
use Rattle.flick_lines.specs.declared.verb.Verb.TheVariants.{Count}
use Rattle.flick_top.specs.declared.command.Action.{Action}
use Rattle.flick_top.specs.declared.command.Action.TheVariants.{Answer, Check, Stubs}
use Rattle.flick_top.specs.declared.command.Command.{Command}
use Rattle.flick_top.specs.declared.command.Command.TheVariants.{Over}
use Rattle.flick_top.specs.Answer.{Answering}
use Rattle.flick_top.specs.Command.{command_of, ChecksStubs}
use Rattle.flick_top.specs.Made.{codes_of, LeavesEngine}
use Rattle.flick_top.specs.Outside.{Input, Held, TakesPrefix, Fails}
use Rattle.flick_top.specs.Dispatch.{Files, IsTask, AreAnswered, Does}
use Rattle.flick_top.specs.Items.{IsCutting, by_frames, by_lines}
use Rattle.flick_top.specs.Task.{Task, out_of}
use Rattle.flick_top.specs.Statement.{Works, Completes}
use Rattle.flick_top.specs.Status.{out_of_memory}

-- an action that shows the codes of the engine: `stubs` writes them, `count` what they cost, and `check` lays stubs beside them
abbrev pub IsOverCodes : Action → Type 0
IsOverCodes Stubs = Unit {0}
IsOverCodes (Check stubs) = Unit {0}
IsOverCodes (Answer Count) = Unit {0}
IsOverCodes _ = ⊥

-- the same of a command
abbrev pub ShowsCodes : Option Command → Type 0
ShowsCodes (Some (Over action n)) = IsOverCodes action
ShowsCodes _ = ⊥

-- the words have one output over the files, whatever codes engines have; with the same codes, where the command shows them; and by the
-- same engine, where it says what is to be said of stubs, which are laid over its table of types
abbrev pub OneOutput : Type 0
OneOutput = (codes others : List Stub) (words : List (List ℕ)) (files : Files) (t u : Task) (f g : Answering)
    → (ShowsCodes (command_of words) → codes ≡ others)
    → (ChecksStubs (command_of words) → t.engine ≡ u.engine)
    → IsTask codes words files t → IsTask others words files u → AreAnswered t.feed f → AreAnswered u.feed g
    → (input : List ℕ) → out_of t f input ≡ out_of u g input

-- all words and files have a task, whatever codes an engine has
abbrev pub WordsHaveTasks : Type 0
WordsHaveTasks = (codes : List Stub) (words : List (List ℕ)) (files : Files) → (task : Task) × IsTask codes words files task

-- the whole output of the words was written, and the status is that of it
abbrev pub WritesWhole : Option Coded → List (List ℕ) → Files → List ℕ → Held → Held → ℕ → Type 0
WritesWhole made words files input held held' status = Does (codes_of made) words files
    (λ task f. (status ≡ (out_of task f input).status) × Appends held held' (out_of task f input).octets)

-- no count of faults of the source, the sink and the shelf rose
pub record NoneRose (a a' b b' c c' : ℕ) : Type 0 where
  pub source : Rose a a' → ⊥
  pub sink : Rose b b' → ⊥
  pub shelf : Rose c c' → ⊥

-- where the source says its octets, which are at most the greatest input, and no count of faults rose, the clauses of `flick` come to this:
-- the whole output was written, or memory ran out
abbrev pub OutputsAreWhole : Type 0
OutputsAreWhole = (made : Option Coded) (words : List (List ℕ)) (files : Files) (left left' : Input) (held held' : Held)
    (source source' sink sink' shelf shelf' status : ℕ) (old new : Buf)
    → Works made words files left left' source source' held held' old new status → TakesPrefix left left'
    → Completes left left' (Rose source source') (Rose sink sink') (Rose shelf shelf') status
    → (input : List ℕ) → left ≡ Some input → length input ≤ most_input → NoneRose source source' sink sink' shelf shelf'
    → (status ≡ out_of_memory) ⊎ WritesWhole made words files input held held' status

-- what was appended, and what is lacking of the output
abbrev pub Begins : Task → Answering → List ℕ → Held → Held → Type 0
Begins task f input held held' =
    (begun rest : List ℕ) × ((out_of task f input).octets ≡ begun ++ rest) × Appends held held' begun

-- the clause `work` of `flick` comes to this, whatever the status, for each task to which the words come, and its answers; where stubs are
-- checked, for each such task by the engine that was left
abbrev pub OutputsBegin : Type 0
OutputsBegin = (made : Option Coded) (words : List (List ℕ)) (files : Files) (left left' : Input) (held held' : Held)
    (source source' status : ℕ) (old new : Buf) → Works made words files left left' source source' held held' old new status
    → (task : Task) (f : Answering) → IsTask (codes_of made) words files task → AreAnswered task.feed f
    → (ChecksStubs (command_of words) → task.engine ≡ made) → (input : List ℕ) → left ≡ Some input → Begins task f input held held'

-- where a file is bound, the work that was done leaves an engine of its unit
abbrev pub BoundFilesLeaveEngines : Type 0
BoundFilesLeaveEngines = (made : Option Coded) (words : List (List ℕ)) (files : Files) (left left' : Input) (held held' : Held)
    (source source' status : ℕ) (old new : Buf) → Works made words files left left' source source' held held' old new status
    → Fails left left' held held' status ⊎ LeavesEngine made (command_of words) words files

-- lines are cut so that what has ended stays
abbrev pub LinesAreCut : Type 0
LinesAreCut = IsCutting by_lines

-- raw streams are cut so too
abbrev pub StreamsAreCut : Type 0
StreamsAreCut = (back : Back) → IsCutting (by_frames back)
