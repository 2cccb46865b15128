-- All words and files have a task.
use Rattle.std.proofs.Common.{◌≡◌, ℕ, Bool, true, false, List, [], length, Option, Some, None, Ok, Err, refl}
use Rattle.std.specs.Prelude.{nat_le, MatchBool}
use Rattle.kit_base.specs.Limits.{longest_file, longest_replies, longest_stubs}
use Rattle.idl_lex.specs.declared.kinds.Front.{Front}
use Rattle.aoi.specs.Plain.{PlainUnit, IsSoundPlain}
use Rattle.pres.specs.declared.errors.BindErr.{BindErr}
use Rattle.pres.specs.Faults.{bind_fault}
use Rattle.pres.proofs.Existing.{units_bound}
use Rattle.stub_codes.specs.declared.stub.Stub.{Stub}
use Rattle.stub_codes.specs.Stubs.{Coded}
use Rattle.flick_engine.specs.declared.wire.Wire.{Wire}
use Rattle.flick_engine.specs.Backs.{back_in, minor_in}
use Rattle.flick_check.proofs.Deciding.{checked_somehow}
use Rattle.flick_serve.proofs.Deciding.{given_somehow}
use Rattle.flick_texts.specs.MadeText.{make_text}
use Rattle.flick_texts.specs.Spent.{all_sent}
use Rattle.flick_texts.specs.StubTexts.{stubs_text}
use Rattle.flick_top.specs.declared.command.Action.{Action}
use Rattle.flick_top.specs.declared.command.Action.TheVariants as actions
use Rattle.flick_top.specs.declared.command.Command.{Command}
use Rattle.flick_top.specs.declared.command.Command.TheVariants as commands
use Rattle.flick_top.specs.declared.job.Job.TheVariants as jobs
use Rattle.flick_top.specs.declared.report.Report.TheVariants as reports
use Rattle.flick_top.specs.Command.{command_of, word_at}
use Rattle.flick_top.specs.File.{Reported, BindSays, BoundSays, FileSays, codes_in}
use Rattle.flick_top.specs.Fronts.{Read, UnitOf}
use Rattle.flick_top.specs.Laws.{WordsHaveTasks}
use Rattle.flick_top.specs.Dispatch.{Files, showing_task, text_before, serving_task, ServesText, ServesFile, ChecksText, ChecksFile, Acts, ActsOver, bridging_task, Bridges, TaskOf}
use Rattle.flick_top.specs.Task.{Task, report_task, answering_task, writing_task, checking_task, usage_task}
use Rattle.flick_top.proofs.UnitsOfFronts.{IsSoundRead, unit_has}

-- ---- over a back end

bind_has : (codes : List Stub) (u : PlainUnit) (w : Wire) (e : Option BindErr) → IsSoundPlain u → bind_fault u (back_in w) ≡ e
    → (reported : Reported) × BindSays codes u w e reported
bind_has codes u w (Some e) sound is = (Err (reports.Bind e), refl)
bind_has codes u w None sound is =
    let (b, stands, unit, of, nodes) = units_bound u (back_in w) sound is in (
      Ok (record { binding = b; minor = minor_in w; answers = true; stubs = codes }),
      ((record { stands = stands; unit = unit; back = of; nodes = nodes }, refl), refl),
    )

bound_has : (codes : List Stub) (w : Wire) (read : Read) → IsSoundRead read → (reported : Reported) × BoundSays codes w read reported
bound_has codes w (Err report) sound = (Err report, refl)
bound_has codes w (Ok u) sound = bind_has codes u w (bind_fault u (back_in w)) sound refl

-- ---- a second format

bind_second : (u : PlainUnit) (w : Wire) (e : Option BindErr) → IsSoundPlain u → bind_fault u (back_in w) ≡ e
    → (second : Reported) × BindSays (codes_in second) u w e second
bind_second u w (Some e) sound is = (Err (reports.Bind e), refl)
bind_second u w None sound is =
    let (b, stands, unit, of, nodes) = units_bound u (back_in w) sound is in (
      Ok (record { binding = b; minor = minor_in w; answers = false; stubs = [] }),
      ((record { stands = stands; unit = unit; back = of; nodes = nodes }, refl), refl),
    )

-- the unit of an engine is sound
bound_sound : (codes : List Stub) (u : PlainUnit) (w : Wire) (x : Option BindErr) (e : Coded) → BindSays codes u w x (Ok e)
    → IsSoundPlain e.binding.unit
bound_sound codes u w (Some x) e is = absurd (cc is)
bound_sound codes u w None e (over, same) = over.0.stands.sound

engine_sound : (codes : List Stub) (w : Wire) (read : Read) (e : Coded) → BoundSays codes w read (Ok e) → IsSoundPlain e.binding.unit
engine_sound codes w (Err report) e is = absurd (cc is)
engine_sound codes w (Ok u) e says = bound_sound codes u w (bind_fault u (back_in w)) e says

bridges_have : (codes : List Stub) (w to : Wire) (read : Read) (reported : Reported) → BoundSays codes w read reported
    → (task : Task) × Bridges to reported task
bridges_have codes w to read (Err report) bound = (report_task report None, refl)
bridges_have codes w to read (Ok e) bound =
    let u = e.binding.unit in
    let (second, is) = bind_second u to (bind_fault u (back_in to)) (engine_sound codes w read e bound) refl in
    (bridging_task e second, (second, is, refl))

-- ---- a file

within_has : (k : Front) (text : List ℕ) (b : Bool) → nat_le (length text) longest_file ≡ b
    → (read : Read) × MatchBool b (UnitOf k text read) (read ≡ Err reports.TooLarge) × IsSoundRead read
within_has k text true is = unit_has k text
within_has k text false is = (Err reports.TooLarge, refl, tt)

file_has : (k : Front) (content : Option (List ℕ)) → (read : Read) × FileSays k content read × IsSoundRead read
file_has k None = (Err reports.NoFile, refl, tt)
file_has k (Some text) = within_has k text (nat_le (length text) longest_file) refl

-- ---- words

within_serves : (e : Coded) (text : List ℕ) (b : Bool)
    → (task : Task) × MatchBool b (ServesText e text task) (task ≡ report_task reports.LargeReplies (Some e))
within_serves e text true = let (x, gives) = given_somehow e.binding text in (serving_task e text x, (x, gives, refl))
within_serves e text false = (report_task reports.LargeReplies (Some e), refl)

serves_has : (e : Coded) (content : Option (List ℕ)) → (task : Task) × ServesFile e content task
serves_has e None = (report_task reports.NoReplies (Some e), refl)
serves_has e (Some text) = within_serves e text (nat_le (length text) longest_replies)

within_checks : (e : Coded) (text : List ℕ) (b : Bool)
    → (task : Task) × MatchBool b (ChecksText e text task) (task ≡ report_task reports.LargeStubs (Some e))
within_checks e text true = let (answers, is) = checked_somehow e text in (checking_task answers e, (answers, is, refl))
within_checks e text false = (report_task reports.LargeStubs (Some e), refl)

checks_has : (e : Coded) (content : Option (List ℕ)) → (task : Task) × ChecksFile e content task
checks_has e None = (report_task reports.NoStubs (Some e), refl)
checks_has e (Some text) = within_checks e text (nat_le (length text) longest_stubs)

action_has : (a : Action) (e : Coded) (words : List (List ℕ)) (files : Files) → (task : Task) × Acts a e words files task
action_has (actions.Serve replies) e words files = serves_has e (files (word_at words replies))
action_has (actions.Check stubs) e words files = checks_has e (files (word_at words stubs))
action_has (actions.Answer verb) e words files = (answering_task (text_before verb e) (jobs.Over verb e), refl)
action_has actions.Pipe e words files = (answering_task [] (jobs.Pipe e), refl)
action_has actions.Unpipe e words files = (answering_task [] (jobs.Unpipe e), refl)
action_has actions.Stubs e words files = (writing_task (stubs_text e) [] (Some e), refl)
action_has (actions.Make number many) e words files =
    (writing_task (make_text e.binding e.minor number many) (all_sent e number many) (Some e), refl)

reported_has : (a : Action) (reported : Reported) (words : List (List ℕ)) (files : Files)
    → (task : Task) × ActsOver a reported words files task
reported_has a (Ok e) words files = action_has a e words files
reported_has a (Err report) words files = (report_task report None, refl)

command_has : (codes : List Stub) (command : Option Command) (words : List (List ℕ)) (files : Files)
    → (task : Task) × TaskOf codes command words files task
command_has codes None words files = (usage_task, refl)
command_has codes (Some commands.Help) words files = (report_task reports.Help None, refl)
command_has codes (Some commands.Version) words files = (report_task reports.Version None, refl)
command_has codes (Some (commands.Show front)) words files =
    let (read, says, sound) = file_has front (files (word_at words 2)) in
    (showing_task read, (read, says, refl))
command_has codes (Some (commands.Over a n)) words files =
    let (read, says, sound) = file_has n.front (files (word_at words n.file)) in
    let (reported, bound) = bound_has codes n.wire read sound in
    let (task, acts) = reported_has a reported words files in
    (task, (reported, (read, says, bound), acts))
command_has codes (Some (commands.Bridge n to)) words files =
    let (read, says, sound) = file_has n.front (files (word_at words n.file)) in
    let (reported, bound) = bound_has codes n.wire read sound in
    let (task, bridges) = bridges_have codes n.wire to read reported bound in
    (task, (reported, (read, says, bound), bridges))

pub words_task : WordsHaveTasks
words_task codes words files = command_has codes (command_of words) words files
