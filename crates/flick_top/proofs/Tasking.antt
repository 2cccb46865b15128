-- What is prepared is what the words come to.
use Rattle.std.proofs.Common.{◌≡◌, inl, inr, ℕ, Bool, true, false, List, [], Option, Some, None, refl, sym, ◌∙◌, subst}
use Rattle.std.specs.Prelude.{if◌then◌else◌}
use Rattle.std.proofs.KnownBytes.{Appends-nil, Consumes-nil}
use Rattle.raw_buf.specs.Buf.{Buf}
use Rattle.stub_codes.specs.Stubs.{Coded}
use Rattle.flick_lines.specs.Sent.{nothing}
use Rattle.flick_lines.proofs.Sending.{spent-none}
use Rattle.flick_top.specs.declared.command.Command.{Command}
use Rattle.flick_top.specs.declared.job.Job.{Job}
use Rattle.flick_top.specs.declared.prepared.Prepared.{Prepared}
use Rattle.flick_top.specs.declared.report.Report.{Report}
use Rattle.flick_top.specs.declared.report.Report.TheVariants as reports
use Rattle.flick_top.specs.declared.status.Status.{Status}
use Rattle.flick_top.specs.declared.status.Status.TheVariants as s
use Rattle.flick_top.specs.Answer.{Answering, answer_of}
use Rattle.flick_top.specs.Dispatch.{Files, TaskOf, IsTask, AreAnswered}
use Rattle.flick_top.specs.Command.{command_of}
use Rattle.flick_top.specs.Made.{codes_of}
use Rattle.flick_top.specs.Outside.{Input, Held}
use Rattle.flick_top.specs.Report.{report_status}
use Rattle.flick_top.specs.Statement.{Done, Works}
use Rattle.flick_top.specs.Status.{usage}
use Rattle.flick_top.specs.Task.{Task, engine_of, usage_task, task_in}
use Rattle.flick_top.specs.Turn.{AreFirst, ComesIn, EndsAs, IsIn}
use Rattle.flick_top.proofs.Doing.{with-before}

-- to say something ends so
pub report-ends : (report : Report) (status : Status) → status ≡ report_status report → EndsAs None status
report-ends report status is = subst (λ (x : Status). EndsAs None x) (sym is) (ends report) where
  ends : (report : Report) → EndsAs None (report_status report)
  ends reports.Help = inl refl
  ends reports.Version = inl refl
  ends reports.NoFile = inr (inr refl)
  ends reports.TooLarge = inr (inr refl)
  ends (reports.Lex fault) = inr (inr refl)
  ends (reports.Syntax line) = inr (inr refl)
  ends (reports.Name error) = inr (inr refl)
  ends (reports.Bind reason) = inr (inr refl)
  ends reports.NoReplies = inr (inr refl)
  ends reports.LargeReplies = inr (inr refl)
  ends (reports.WrongReply line) = inr (inr refl)
  ends reports.NoStubs = inr (inr refl)
  ends reports.LargeStubs = inr (inr refl)

-- so does work whose answers are refusals or not
pub answers-end : (b : Bool) (status : Status) → status ≡ (if b then s.Refused else s.Done) → EndsAs None status
answers-end true status is = inr (inl is)
answers-end false status is = inl is

-- ---- without the buffer

none_first : (feed : Option Job) → AreFirst feed []
none_first None = tt
none_first (Some job) = refl

-- a task for whose text nothing was sent
pub is-in : (Is : Task → Type 0) (p : Prepared) (buf : Buf) → Is (task_in p []) → IsIn Is p buf buf
is-in Is p buf is = ([], is, spent-none true buf, none_first p.feed)

-- ---- what the words come to

is_task : (words : List (List ℕ)) (files : Files) (task : Task) (made : Option Coded) (p : Prepared) (found : Option Command)
    (command : Command) → found ≡ command_of words → found ≡ Some command → made ≡ engine_of p
    → TaskOf (codes_of (engine_of p)) (Some command) words files task → IsTask (codes_of made) words files task
is_task words files task made p found command is some left comes =
    let same : TaskOf (codes_of made) (Some command) words files task =
    subst (λ (o : Option Coded). TaskOf (codes_of o) (Some command) words files task) (sym left) comes in
    subst (λ (o : Option Command). TaskOf (codes_of made) o words files task) (sym some ∙ is) same

-- what was done of what is prepared is the work of the words
pub work-of : (words : List (List ℕ)) (files : Files) (made : Option Coded) (p : Prepared) (f : Answering) (found : Option Command)
    (command : Command) (left left' : Input) (before now : ℕ) (held held' : Held) (old mid new : Buf) (status : ℕ)
    → found ≡ command_of words → found ≡ Some command → made ≡ engine_of p → AreAnswered p.feed f
    → ComesIn (Some command) words files p old mid
    → Done (task_in p []) f (engine_of p) left left' before now held held' mid new status
    → Works made words files left left' before now held held' old new status
work-of words files made p f found command left left' before now held held' old mid new status is some same all (ss, comes, spent, first)
    done = inr (
      task_in p ss,
      f,
      is_task words files (task_in p ss) made p found command is some same comes,
      all,
      with-before p f made left left' before now held held' old mid new status ss same spent first done,
    )

-- where the words have no shape, nothing is all the work
pub shapeless-work : (made : Option Coded) (words : List (List ℕ)) (files : Files) (left : Input) (faults : ℕ) (held : Held) (buf : Buf)
    → made ≡ None → command_of words ≡ None → Works made words files left left faults faults held held buf buf usage
shapeless-work made words files left faults held buf same none = inr (
  usage_task,
  (λ item. answer_of [] nothing),
  subst (λ (o : Option Command). TaskOf (codes_of made) o words files usage_task) (sym none) refl,
  tt,
  subst (λ (e : Option Coded). Done usage_task (λ item. answer_of [] nothing) e left left faults faults held held buf buf usage)
      (sym same)
      (record {
        output = λ few input reported. (refl, Appends-nil held);
        prefix = λ input reported. ([], [], refl, Appends-nil held);
        whole = λ other input reported. (0, Appends-nil held);
        ended = λ four. absurd (cc four);
        unread = λ alone. (Consumes-nil left, refl, (λ e. absurd (cc e)), λ e. absurd (cc e));
        at_end = λ some. absurd (some refl);
        engine = refl;
        coded = tt;
        spent = λ few input reported. spent-none true buf;
      }),
)
