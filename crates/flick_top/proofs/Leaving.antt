-- The engine that a command leaves of its file.
use Rattle.std.proofs.Common.{◌≡◌, inl, inr, ℕ, List, length, Bool, true, false, Option, Some, None, Result, Ok, Err, refl, sym, ap, ◌∙◌, subst}
use Rattle.std.specs.Prelude.{nat_le, MatchBool, IfSome, IsSomeAnd, IsOkAnd}
use Rattle.kit_base.specs.Limits.{longest_replies, longest_stubs}
use Rattle.aoi.specs.Plain.{PlainUnit}
use Rattle.pres.specs.declared.errors.BindErr.{BindErr}
use Rattle.pres.specs.Faults.{bind_fault}
use Rattle.stub_codes.specs.declared.stub.Stub.{Stub}
use Rattle.stub_codes.specs.Stubs.{Coded, IsCoded}
use Rattle.flick_engine.specs.declared.wire.Wire.{Wire}
use Rattle.flick_engine.specs.Backs.{back_in}
use Rattle.flick_serve.specs.Given.{Given}
use Rattle.flick_top.specs.declared.command.Action.{Action}
use Rattle.flick_top.specs.declared.command.Action.TheVariants as actions
use Rattle.flick_top.specs.declared.command.Command.{Command}
use Rattle.flick_top.specs.declared.command.Command.TheVariants as commands
use Rattle.flick_top.specs.declared.report.Report.TheVariants.{LargeReplies, LargeStubs}
use Rattle.flick_top.specs.Command.{command_of, word_at}
use Rattle.flick_top.specs.File.{Reported, IsOf, BindSays, BoundSays}
use Rattle.flick_top.specs.Fronts.{Read}
use Rattle.flick_top.specs.Dispatch.{Files, serving_task, ServesText, ServesFile, ChecksText, ChecksFile, Acts, ActsOver, bridging_task, Bridges, TaskOf}
use Rattle.flick_top.specs.Laws.{BoundFilesLeaveEngines}
use Rattle.flick_top.specs.Made.{codes_of, IsEngineOver, LeavesEngine}
use Rattle.flick_top.specs.Task.{Task, report_task}
use Rattle.flick_top.proofs.FilesSay.{file_says}

-- what a file of replies gives is answered, or refused, by the engine
given_engine : (e : Coded) (text : List ℕ) (x : Result Given ℕ) → (serving_task e text x).engine ≡ Some e
given_engine e text (Ok g) = refl
given_engine e text (Err line) = refl

within_engine : (e : Coded) (text : List ℕ) (task : Task) (b : Bool)
    → MatchBool b (ServesText e text task) (task ≡ report_task LargeReplies (Some e)) → task.engine ≡ Some e
within_engine e text task true (x, gives, is) = ap (λ (t : Task). t.engine) is ∙ given_engine e text x
within_engine e text task false is = ap (λ (t : Task). t.engine) is

serves_engine : (e : Coded) (content : Option (List ℕ)) (task : Task) → ServesFile e content task → task.engine ≡ Some e
serves_engine e None task is = ap (λ (t : Task). t.engine) is
serves_engine e (Some text) task h = within_engine e text task (nat_le (length text) longest_replies) h

-- stubs are checked by the engine
stubs_engine : (e : Coded) (text : List ℕ) (task : Task) (b : Bool)
    → MatchBool b (ChecksText e text task) (task ≡ report_task LargeStubs (Some e)) → task.engine ≡ Some e
stubs_engine e text task true (answers, says, is) = ap (λ (t : Task). t.engine) is
stubs_engine e text task false is = ap (λ (t : Task). t.engine) is

checks_engine : (e : Coded) (content : Option (List ℕ)) (task : Task) → ChecksFile e content task → task.engine ≡ Some e
checks_engine e None task is = ap (λ (t : Task). t.engine) is
checks_engine e (Some text) task h = stubs_engine e text task (nat_le (length text) longest_stubs) h

-- the task of an action over an engine has that engine
acts_engine : (a : Action) (e : Coded) (words : List (List ℕ)) (files : Files) (task : Task) → Acts a e words files task
    → task.engine ≡ Some e
acts_engine (actions.Serve replies) e words files task h = serves_engine e (files (word_at words replies)) task h
acts_engine (actions.Check stubs) e words files task h = checks_engine e (files (word_at words stubs)) task h
acts_engine (actions.Answer verb) e words files task is = ap (λ (t : Task). t.engine) is
acts_engine actions.Pipe e words files task is = ap (λ (t : Task). t.engine) is
acts_engine actions.Unpipe e words files task is = ap (λ (t : Task). t.engine) is
acts_engine actions.Stubs e words files task is = ap (λ (t : Task). t.engine) is
acts_engine (actions.Make number many) e words files task is = ap (λ (t : Task). t.engine) is

-- an engine over a binding of the unit, with the codes of its operations
some_over : (u : PlainUnit) (w : Wire) (o : Option Coded) (e : Coded) → o ≡ Some e → IsOf u w e → IfSome o IsCoded
    → IsSomeAnd o (IsEngineOver u w)
some_over u w o e is over coded =
    subst (λ (x : Option Coded). IsSomeAnd x (IsEngineOver u w)) (sym is)
    (over, subst (λ (x : Option Coded). IfSome x IsCoded) is coded)

reported_over : (codes : List Stub) (u : PlainUnit) (w : Wire) (a : Action) (reported : Reported) (words : List (List ℕ)) (files : Files)
    (task : Task) → IsOkAnd reported (λ e. IsOf u w e × (e.stubs ≡ codes)) → ActsOver a reported words files task
    → IfSome task.engine IsCoded → IsSomeAnd task.engine (IsEngineOver u w)
reported_over codes u w a (Ok e) words files task over acts coded =
    some_over u w task.engine e (acts_engine a e words files task acts) over.0 coded
reported_over codes u w a (Err f) words files task over acts coded = absurd over

-- the reading of a unit that is bound comes to an engine
bound_over : (codes : List Stub) (w : Wire) (read : Read) (u : PlainUnit) (reported : Reported) → read ≡ Ok u
    → bind_fault u (back_in w) ≡ None → BoundSays codes w read reported → IsOkAnd reported (λ e. IsOf u w e × (e.stubs ≡ codes))
bound_over codes w read u reported is none says =
    let over : BindSays codes u w (bind_fault u (back_in w)) reported = subst (λ (r : Read). BoundSays codes w r reported) is says in
    subst (λ (f : Option BindErr). BindSays codes u w f reported) none over

-- the task of a bridge has the engine of the messages that are read
bridging_engine : (e : Coded) (second : Reported) → (bridging_task e second).engine ≡ Some e
bridging_engine e (Ok x) = refl
bridging_engine e (Err report) = refl

bridged_leaves : (codes : List Stub) (u : PlainUnit) (w to : Wire) (reported : Reported) (task : Task)
    → IsOkAnd reported (λ e. IsOf u w e × (e.stubs ≡ codes)) → Bridges to reported task
    → IfSome task.engine IsCoded → IsSomeAnd task.engine (IsEngineOver u w)
bridged_leaves codes u w to (Ok e) task over (second, is, same) coded =
    some_over u w task.engine e (ap (λ (t : Task). t.engine) same ∙ bridging_engine e second) over.0 coded
bridged_leaves codes u w to (Err f) task over bridges coded = absurd over

leaves : (codes : List Stub) (command : Option Command) (words : List (List ℕ)) (files : Files) (task : Task)
    → TaskOf codes command words files task → IfSome task.engine IsCoded → LeavesEngine task.engine command words files
leaves codes None words files task comes coded = tt
leaves codes (Some commands.Help) words files task comes coded = tt
leaves codes (Some commands.Version) words files task comes coded = tt
leaves codes (Some (commands.Show front)) words files task comes coded = tt
leaves codes (Some (commands.Over a n)) words files task (reported, (read, says, bound), acts) coded = λ u is none.
    let same : read ≡ Ok u = file_says n.front (files (word_at words n.file)) read (Ok u) says is in
    reported_over codes u n.wire a reported words files task (bound_over codes n.wire read u reported same none bound) acts coded
leaves codes (Some (commands.Bridge n to)) words files task (reported, (read, says, bound), bridges) coded = λ u is none.
    let same : read ≡ Ok u = file_says n.front (files (word_at words n.file)) read (Ok u) says is in
    bridged_leaves codes u n.wire to reported task (bound_over codes n.wire read u reported same none bound) bridges coded

-- what is left is the engine of the task
pub bound_leaves : BoundFilesLeaveEngines
bound_leaves made words files left left' held held' source source' status old new (inl fails) = inl fails
bound_leaves made words files left left' held held' source source' status old new (inr (task, f, is, all, done)) =
    inr (subst (λ (o : Option Coded). LeavesEngine o (command_of words) words files) (sym done.engine)
    (leaves (codes_of made) (command_of words) words files task is
    (subst (λ (o : Option Coded). IfSome o IsCoded) done.engine done.coded)))
