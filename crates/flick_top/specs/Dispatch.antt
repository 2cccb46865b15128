-- What a command comes to over the files.
use Rattle.std.specs.Prelude.{◌≡◌, ℕ, List, [], length, nat_le, MatchBool, Option, Some, None, Result, Ok, Err}
use Rattle.kit_base.specs.Limits.{longest_replies, longest_stubs}
use Rattle.stub_codes.specs.declared.stub.Stub.{Stub}
use Rattle.stub_codes.specs.Stubs.{Coded}
use Rattle.idl_lex.specs.declared.kinds.Front.{Front}
use Rattle.flick_engine.specs.declared.wire.Wire.{Wire}
use Rattle.flick_bridge.specs.Bridged.{Bridging}
use Rattle.flick_check.specs.Checked.{IsChecked}
use Rattle.flick_lines.specs.declared.verb.Verb.{Verb}
use Rattle.flick_lines.specs.declared.verb.Verb.TheVariants.{Count}
use Rattle.flick_serve.specs.Given.{Given, FileGives}
use Rattle.flick_texts.specs.MadeText.{make_text}
use Rattle.flick_texts.specs.Show.{show_text}
use Rattle.flick_texts.specs.Spent.{all_sent}
use Rattle.flick_texts.specs.StubTexts.{counted_text, stubs_text}
use Rattle.flick_top.specs.declared.command.Action.{Action}
use Rattle.flick_top.specs.declared.command.Action.TheVariants as actions
use Rattle.flick_top.specs.declared.command.Command.{Command}
use Rattle.flick_top.specs.declared.command.Command.TheVariants as commands
use Rattle.flick_top.specs.declared.command.Named.{Named}
use Rattle.flick_top.specs.declared.file.NoBridge.{NoBridge}
use Rattle.flick_top.specs.declared.job.Job.TheVariants as jobs
use Rattle.flick_top.specs.declared.report.Report.TheVariants as reports
use Rattle.flick_top.specs.Answer.{Answering, IsAnswering}
use Rattle.flick_top.specs.Command.{command_of, word_at}
use Rattle.flick_top.specs.File.{Reported, FileSays, BoundSays, codes_in}
use Rattle.flick_top.specs.Fronts.{Read}
use Rattle.flick_top.specs.Task.{Task, report_task, writing_task, checking_task, answering_task, usage_task}
use Rattle.flick_top.specs.declared.job.Job.{Job}

-- files by their paths
abbrev pub Files : Type 0
Files = List ℕ → Option (List ℕ)

-- the text before the answers of a verb
abbrev pub text_before : Verb → Coded → List ℕ
text_before Count e = counted_text e
text_before _ e = []

-- to serve by the replies that a file gives, or to say which of its lines is wrong
abbrev pub serving_task : Coded → List ℕ → Result Given ℕ → Task
serving_task e text (Ok g) = answering_task [] (jobs.Serve (record { coded = e; text = text }))
serving_task e text (Err line) = report_task (reports.WrongReply line) (Some e)

-- what `serve` comes to over an engine and the text of a file of replies
abbrev pub ServesText : Coded → List ℕ → Task → Type 0
ServesText e text task = (x : Result Given ℕ) × FileGives e.binding text x × (task ≡ serving_task e text x)

-- the same over the content of the file, where there is the file
abbrev pub ServesFile : Coded → Option (List ℕ) → Task → Type 0
ServesFile e None task = task ≡ report_task reports.NoReplies (Some e)
ServesFile e (Some text) task =
    MatchBool (nat_le (length text) longest_replies) (ServesText e text task) (task ≡ report_task reports.LargeReplies (Some e))

-- what `check` comes to over an engine and the text of a file of stubs
abbrev pub ChecksText : Coded → List ℕ → Task → Type 0
ChecksText e text task = (answers : List ℕ) × IsChecked e text answers × (task ≡ checking_task answers e)

-- the same over the content of the file, where there is the file
abbrev pub ChecksFile : Coded → Option (List ℕ) → Task → Type 0
ChecksFile e None task = task ≡ report_task reports.NoStubs (Some e)
ChecksFile e (Some text) task =
    MatchBool (nat_le (length text) longest_stubs) (ChecksText e text task) (task ≡ report_task reports.LargeStubs (Some e))

-- what an action comes to over an engine: to answer items by a verb, or by the replies of a second file, or to write a text
abbrev pub Acts : Action → Coded → List (List ℕ) → Files → Task → Type 0
Acts (actions.Answer verb) e words files task = task ≡ answering_task (text_before verb e) (jobs.Over verb e)
Acts actions.Pipe e words files task = task ≡ answering_task [] (jobs.Pipe e)
Acts actions.Unpipe e words files task = task ≡ answering_task [] (jobs.Unpipe e)
Acts (actions.Serve replies) e words files task = ServesFile e (files (word_at words replies)) task
Acts (actions.Check stubs) e words files task = ChecksFile e (files (word_at words stubs)) task
Acts actions.Stubs e words files task = task ≡ writing_task (stubs_text e) [] (Some e)
Acts (actions.Make number many) e words files task =
    task ≡ writing_task (make_text e.binding e.minor number many) (all_sent e number many) (Some e)

-- the same over what was made, or is said instead
abbrev pub ActsOver : Action → Reported → List (List ℕ) → Files → Task → Type 0
ActsOver action (Ok e) words files task = Acts action e words files task
ActsOver action (Err report) words files task = task ≡ report_task report None

-- what the content of a file comes to by a front end and with messages of a format, where an engine has these codes
abbrev pub IsMadeIn : List Stub → Front → Wire → Option (List ℕ) → Reported → Type 0
IsMadeIn codes front wire content reported = (read : Read) × FileSays front content read × BoundSays codes wire read reported

-- the same by the front end and the format that words name
abbrev pub IsMadeOf : List Stub → Named → Option (List ℕ) → Reported → Type 0
IsMadeOf codes n content reported = IsMadeIn codes n.front n.wire content reported

-- what an engine's unit comes to with messages of a second format
abbrev pub IsSecond : Coded → Wire → Reported → Type 0
IsSecond e to second = BoundSays (codes_in second) to (Ok e.binding.unit) second

-- to bridge from the messages of an engine to those of a second one, or to say why there is none
abbrev pub bridging_task : Coded → Reported → Task
bridging_task e (Ok second) = answering_task [] (jobs.Bridge (record { from = e; to = second }))
bridging_task e (Err report) = report_task report (Some e)

-- what `bridge` to a second format comes to over what was made for the first one, or is said instead
abbrev pub Bridges : Wire → Reported → Task → Type 0
Bridges to (Ok e) task = (second : Reported) × IsSecond e to second × (task ≡ bridging_task e second)
Bridges to (Err report) task = task ≡ report_task report None

-- the same over the content of the file, where an engine has these codes
abbrev pub BridgesFile : List Stub → Named → Wire → Option (List ℕ) → Task → Type 0
BridgesFile codes n to content task = (reported : Reported) × IsMadeOf codes n content reported × Bridges to reported task

-- the bridge from an engine to a second one, or what is said in its place
abbrev pub bridge_of : Coded → Reported → Result Bridging NoBridge
bridge_of e (Ok second) = Ok (record { from = e; to = second })
bridge_of e (Err report) = Err (record { report = report; engine = Some e })

-- the bridge to a second format over what was made for the first one, or what is said in its place
abbrev pub IsBridge : Wire → Reported → Result Bridging NoBridge → Type 0
IsBridge to (Ok e) made = (second : Reported) × IsSecond e to second × (made ≡ bridge_of e second)
IsBridge to (Err report) made = made ≡ Err (record { report = report; engine = None })

-- the same over the content of the file
abbrev pub IsBridgeOf : Named → Wire → Option (List ℕ) → Result Bridging NoBridge → Type 0
IsBridgeOf n to content made = (reported : Reported) × IsMadeOf (codes_in reported) n content reported × IsBridge to reported made

-- to write the text of a unit that was read, or what is said instead
abbrev pub showing_task : Read → Task
showing_task (Ok u) = writing_task (show_text u) [] None
showing_task (Err report) = report_task report None

-- a task is what a command comes to, where an engine has these codes
abbrev pub TaskOf : List Stub → Option Command → List (List ℕ) → Files → Task → Type 0
TaskOf codes None words files task = task ≡ usage_task
TaskOf codes (Some commands.Help) words files task = task ≡ report_task reports.Help None
TaskOf codes (Some commands.Version) words files task = task ≡ report_task reports.Version None
TaskOf codes (Some (commands.Show front)) words files task =
    (read : Read) × FileSays front (files (word_at words 2)) read × (task ≡ showing_task read)
TaskOf codes (Some (commands.Over action n)) words files task =
    (reported : Reported) × IsMadeOf codes n (files (word_at words n.file)) reported × ActsOver action reported words files task
TaskOf codes (Some (commands.Bridge n to)) words files task = BridgesFile codes n to (files (word_at words n.file)) task

-- the words come to this task over these files
abbrev pub IsTask : List Stub → List (List ℕ) → Files → Task → Type 0
IsTask codes words files task = TaskOf codes (command_of words) words files task

-- the answers to the items, where items are answered
abbrev pub AreAnswered : Option Job → Answering → Type 0
AreAnswered None f = Unit {0}
AreAnswered (Some job) f = IsAnswering job f

-- the words come to a task, and its items have these answers, of which this holds
abbrev pub Does : List Stub → List (List ℕ) → Files → (Task → Answering → Type 0) → Type 0
Does codes words files Holds =
    (task : Task) × (f : Answering) × IsTask codes words files task × AreAnswered task.feed f × Holds task f
