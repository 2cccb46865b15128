-- Between reading the files and doing the task: when it is ready, and how the work ends where the input cannot be read on.
use Rattle.std.specs.Prelude.{◌≡◌, ◌⊎◌, ℕ, true, List, [], Option, Some, None}
use Rattle.kit_base.specs.declared.lines.LineErr.{LineErr}
use Rattle.kit_base.specs.declared.lines.LineErr.TheVariants as errors
use Rattle.raw_buf.specs.Buf.{Buf}
use Rattle.stub_codes.specs.Stubs.{Coded}
use Rattle.flick_lines.specs.declared.verb.Verb.TheVariants.{Reply}
use Rattle.flick_lines.specs.Sent.{Sending, IsSpentBy}
use Rattle.flick_top.specs.declared.command.Action.{Action}
use Rattle.flick_top.specs.declared.command.Command.{Command}
use Rattle.flick_top.specs.declared.job.Job.{Job}
use Rattle.flick_top.specs.declared.job.Job.TheVariants.{Over}
use Rattle.flick_top.specs.declared.prepared.Prepared.{Prepared}
use Rattle.flick_top.specs.declared.status.Status.{Status}
use Rattle.flick_top.specs.declared.status.Status.TheVariants.{Done, Refused, File, Source, Memory, Length}
use Rattle.flick_top.specs.Dispatch.{Files, Acts, TaskOf}
use Rattle.flick_top.specs.Made.{codes_of}
use Rattle.flick_top.specs.Task.{Task, engine_of, task_in}

-- the end of work that answers no items is that it was done, with a refusal or without, or that a file was refused; else it is that it
-- was done
abbrev pub EndsAs : Option Job → Status → Type 0
EndsAs None status = (status ≡ Done) ⊎ ((status ≡ Refused) ⊎ (status ≡ File))
EndsAs (Some job) status = status ≡ Done

-- a job of `reply` has an engine with the codes of replies
abbrev pub CanReply : Job → Type 0
CanReply (Over Reply e) = e.answers ≡ true
CanReply _ = Unit {0}

-- the same of what answers items, where they are answered
abbrev pub FeedCanReply : Option Job → Type 0
FeedCanReply None = Unit {0}
FeedCanReply (Some job) = CanReply job

-- what is prepared ends so, and has the codes that it needs
abbrev pub IsReady : Prepared → Type 0
IsReady p = EndsAs p.feed p.status × FeedCanReply p.feed

-- nothing was sent before items are answered
abbrev pub AreFirst : Option Job → List Sending → Type 0
AreFirst None before = Unit {0}
AreFirst (Some job) before = before ≡ []

-- what is prepared is a task of which this holds, and the buffer was spent by what was sent for its text
abbrev pub IsIn : (Task → Type 0) → Prepared → Buf → Buf → Type 0
IsIn Is p old new = (before : List Sending) × Is (task_in p before) × IsSpentBy true before old new × AreFirst p.feed before

-- what an action comes to over an engine
abbrev pub ActsIn : Action → Coded → List (List ℕ) → Files → Prepared → Buf → Buf → Type 0
ActsIn action e words files p old new = IsIn (Acts action e words files) p old new

-- what a command comes to, by the codes of its own engine
abbrev pub ComesIn : Option Command → List (List ℕ) → Files → Prepared → Buf → Buf → Type 0
ComesIn command words files p old new = IsIn (TaskOf (codes_of (engine_of p)) command words files) p old new

-- how the work ends where the input cannot be read on
abbrev pub status_at : LineErr → Status
status_at errors.Failed = Source
status_at errors.NoMemory = Memory
status_at errors.TooMuch = Length
