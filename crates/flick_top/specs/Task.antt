-- Tasks: what is left to do of a command once its files are read, and what is then written and sent.
use Rattle.std.specs.Prelude.{◌≡◌, ℕ, List, [], ◌++◌, Bool, true, if◌then◌else◌, Option, Some, None}
use Rattle.stub_codes.specs.Stubs.{Coded}
use Rattle.flick_check.specs.Checked.{has_refusal}
use Rattle.flick_lines.specs.Sent.{Sending}
use Rattle.flick_top.specs.declared.job.Job.{Job}
use Rattle.flick_top.specs.declared.job.Job.TheVariants as jobs
use Rattle.flick_top.specs.declared.report.Report.{Report}
use Rattle.flick_top.specs.declared.status.Status.{Status}
use Rattle.flick_top.specs.declared.status.Status.TheVariants.{Done, Refused, Usage}
use Rattle.flick_top.specs.declared.prepared.Prepared.{Prepared}
pub use Rattle.flick_top.specs.Answer.{engine_in}
use Rattle.flick_top.specs.Answer.{Answering, answers, refuses, sent_for, cutting_of, is_exact}
use Rattle.flick_top.specs.declared.items.Item.{Item}
use Rattle.flick_top.specs.Report.{report_text, report_status}
use Rattle.flick_top.specs.Status.{number_of, refused}

-- what is left to do
pub record Task : Type 0 where
  -- what is written first
  pub text : List ℕ
  -- how the call ends, where no answer is a refusal
  pub status : Status
  -- what was sent for the text
  pub before : List Sending
  -- what answers the items of the input, where they are answered
  pub feed : Option Job
  -- the engine, where one was made
  pub engine : Option Coded

-- ---- tasks

-- to say this, and no more, over an engine where there is one
abbrev pub report_task : Report → Option Coded → Task
report_task report engine = record { text = report_text report; status = report_status report; before = []; feed = None; engine = engine }

-- to write this text, for which this was sent, and no more
abbrev pub writing_task : List ℕ → List Sending → Option Coded → Task
writing_task text before engine = record { text = text; status = Done; before = before; feed = None; engine = engine }

-- to write these answers, and no more, over an engine; the work ends as a refusal where one of them is
abbrev pub checking_task : List ℕ → Coded → Task
checking_task answers e = record {
  text = answers;
  status = if has_refusal answers then Refused else Done;
  before = [];
  feed = None;
  engine = Some e;
}

-- to answer items, after a text
abbrev pub answering_task : List ℕ → Job → Task
answering_task text job = record { text = text; status = Done; before = []; feed = Some job; engine = Some (engine_in job) }

-- what words come to that name no command
abbrev pub usage_task : Task
usage_task = record { text = []; status = Usage; before = []; feed = None; engine = None }

-- that of the job, or else the one that answers no items
abbrev pub engine_with : Option Job → Option Coded → Option Coded
engine_with (Some job) idle = Some (engine_in job)
engine_with None idle = idle

-- the engine of what is prepared, if it has one
abbrev pub engine_of : Prepared → Option Coded
engine_of p = engine_with p.feed p.idle

-- what is prepared, as a task for whose text this was sent
abbrev pub task_in : Prepared → List Sending → Task
task_in p before = record { text = p.text; status = p.status; before = before; feed = p.feed; engine = engine_of p }

-- ---- what is done

-- the items of an input, where they are answered
abbrev pub items_of : Option Job → List ℕ → List Item
items_of None input = []
items_of (Some job) input = (cutting_of job).whole input

-- those that have ended
abbrev pub ended_of : Option Job → List ℕ → List Item
ended_of None octets = []
ended_of (Some job) octets = (cutting_of job).ended octets

-- after these octets of an input nothing more is read
abbrev pub Stops : Option Job → List ℕ → Type 0
Stops None octets = ⊥
Stops (Some job) octets = (cutting_of job).stops octets ≡ true

-- what is written, and the status
pub record Out : Type 0 where
  pub octets : List ℕ
  pub status : ℕ

-- the text of a task, and the answers to items
abbrev pub written : Task → Answering → List Item → List ℕ
written task f items = task.text ++ answers f items

-- how the call ends
abbrev pub status_of : Task → Answering → List Item → ℕ
status_of task f items = if refuses f items then refused else number_of task.status

-- what a task with these answers writes over an input, and its status
abbrev pub out_of : Task → Answering → List ℕ → Out
out_of task f input =
    record { octets = written task f (items_of task.feed input); status = status_of task f (items_of task.feed input) }

-- what is sent
abbrev pub sent_of : Task → Answering → List ℕ → List Sending
sent_of task f input = task.before ++ sent_for f (items_of task.feed input)

-- of all that is sent the cost is known exactly
abbrev pub exact_of : Option Job → Bool
exact_of None = true
exact_of (Some job) = is_exact job
