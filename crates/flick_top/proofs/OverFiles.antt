-- What an action comes to over what was made of a file is what its command comes to.
use Rattle.std.proofs.Common.{◌≡◌, ℕ, true, List, [], Option, Some, None, Result, Ok, Err, sym, ap, ◌∙◌, subst}
use Rattle.std.specs.Prelude.{IfOk}
use Rattle.raw_buf.specs.Buf.{Buf}
use Rattle.stub_codes.specs.declared.stub.Stub.{Stub}
use Rattle.stub_codes.specs.Stubs.{Coded}
use Rattle.flick_lines.specs.Sent.{Sending, IsSpentBy}
use Rattle.flick_texts.specs.MadeText.{make_text}
use Rattle.flick_texts.specs.Spent.{all_sent}
use Rattle.flick_engine.specs.declared.wire.Wire.{Wire}
use Rattle.flick_top.specs.declared.command.Action.{Action}
use Rattle.flick_top.specs.declared.command.Action.TheVariants.{Serve, Check, Make}
use Rattle.flick_top.specs.declared.command.Command.{Command}
use Rattle.flick_top.specs.declared.command.Command.TheVariants.{Over, Bridge}
use Rattle.flick_top.specs.declared.command.Named.{Named}
use Rattle.flick_top.specs.declared.job.Job.{Job}
use Rattle.flick_top.specs.declared.prepared.Prepared.{Prepared}
use Rattle.flick_top.specs.declared.report.Report.{Report}
use Rattle.flick_top.specs.Dispatch.{Files, IsMadeOf, BridgesFile, ServesFile, ChecksFile, Acts, TaskOf}
use Rattle.flick_top.specs.Command.{word_at}
use Rattle.flick_top.specs.File.{Reported, codes_in}
use Rattle.flick_top.specs.Made.{codes_of}
use Rattle.flick_top.specs.Task.{Task, engine_of, report_task, task_in, writing_task}
use Rattle.flick_top.specs.Turn.{AreFirst, ActsIn, ComesIn}
use Rattle.flick_top.proofs.Tasking.{is-in}

comes_over : (command : Command) (a : Action) (n : Named) (words : List (List ℕ)) (files : Files) (reported : Reported) (e : Coded)
    (p : Prepared) (old new : Buf) → command ≡ Over a n → reported ≡ Ok e → engine_of p ≡ Some e
    → IsMadeOf (codes_in reported) n (files (word_at words n.file)) reported → ActsIn a e words files p old new
    → ComesIn (Some command) words files p old new
comes_over command a n words files reported e p old new is ok has made (before, acts, spent, first) =
    let bound : IsMadeOf e.stubs n (files (word_at words n.file)) (Ok e) =
    subst (λ (r : Reported). IsMadeOf (codes_in r) n (files (word_at words n.file)) r) ok made in
    let made_so = subst (λ (s : List Stub). IsMadeOf s n (files (word_at words n.file)) (Ok e)) (sym (ap codes_of has)) bound in
    subst (λ (k : Command). ComesIn (Some k) words files p old new) (sym is) (before, (Ok e, made_so, acts), spent, first)

-- the same of what an action answered
pub acted-comes : {E : Type 0} (x : Result Prepared E) (command : Command) (a : Action) (n : Named) (words : List (List ℕ))
    (reported : Reported) (e : Coded) (told after : Option Files) (old new : Buf) → command ≡ Over a n → reported ≡ Ok e → after ≡ told
    → ((files : Files) → told ≡ Some files → IsMadeOf (codes_in reported) n (files (word_at words n.file)) reported)
    → IfOk x (λ p. engine_of p ≡ Some e)
    → IfOk x (λ p. (files : Files) → after ≡ Some files → ActsIn a e words files p old new)
    → IfOk x (λ p. (files : Files) → told ≡ Some files → ComesIn (Some command) words files p old new)
acted-comes (Ok p) command a n words reported e told after old new is ok same made has acts = λ files known.
    comes_over command a n words files reported e p old new is ok has (made files known) (acts files (same ∙ known))
acted-comes (Err f) command a n words reported e told after old new is ok same made has acts = tt

-- ---- what a command comes to for whose text nothing was sent

pub alone-comes : (command k : Command) (words : List (List ℕ)) (files : Files) (p : Prepared) (buf : Buf) → command ≡ k
    → TaskOf (codes_of (engine_of p)) (Some k) words files (task_in p []) → ComesIn (Some command) words files p buf buf
alone-comes command k words files p buf is comes =
    is-in (TaskOf (codes_of (engine_of p)) (Some command) words files) p buf
    (subst (λ (x : Command). TaskOf (codes_of (engine_of p)) (Some x) words files (task_in p [])) (sym is) comes)

-- to bridge from the file at a path
pub bridged-comes : {E : Type 0} (x : Result Prepared E) (command : Command) (n : Named) (to : Wire) (words : List (List ℕ))
    (told : Option Files) (path : List ℕ) (buf : Buf) → command ≡ Bridge n to → path ≡ word_at words n.file
    → IfOk x (λ p. (files : Files) → told ≡ Some files → BridgesFile (codes_of (engine_of p)) n to (files path) (task_in p []))
    → IfOk x (λ p. (files : Files) → told ≡ Some files → ComesIn (Some command) words files p buf buf)
bridged-comes (Ok p) command n to words told path buf is at bridges = λ files known.
    alone-comes command (Bridge n to) words files p buf is
    (subst (λ (o : List ℕ). BridgesFile (codes_of (engine_of p)) n to (files o) (task_in p [])) at (bridges files known))
bridged-comes (Err f) command n to words told path buf is at bridges = tt

-- what is said in place of what would be made
pub said-comes : (command : Command) (a : Action) (n : Named) (words : List (List ℕ)) (files : Files) (reported : Reported)
    (report : Report) (p : Prepared) (buf : Buf) → command ≡ Over a n → reported ≡ Err report → task_in p [] ≡ report_task report None
    → IsMadeOf (codes_in reported) n (files (word_at words n.file)) reported → ComesIn (Some command) words files p buf buf
said-comes command a n words files reported report p buf is err said made =
    let none : engine_of p ≡ None = ap (λ (t : Task). t.engine) said in
    let bound : IsMadeOf [] n (files (word_at words n.file)) (Err report) =
    subst (λ (r : Reported). IsMadeOf (codes_in r) n (files (word_at words n.file)) r) err made in
    alone-comes command (Over a n) words files p buf is
    (Err report, subst (λ (e : Option Coded). IsMadeOf (codes_of e) n (files (word_at words n.file)) (Err report)) (sym none) bound, said)

-- ---- what an action comes to

-- to serve by the file at a path
pub served-acts : {E : Type 0} (x : Result Prepared E) (action : Action) (replies : ℕ) (e : Coded) (words : List (List ℕ))
    (told : Option Files) (path : List ℕ) (buf : Buf) → action ≡ Serve replies → path ≡ word_at words replies
    → IfOk x (λ p. (files : Files) → told ≡ Some files → ServesFile e (files path) (task_in p []))
    → IfOk x (λ p. (files : Files) → told ≡ Some files → ActsIn action e words files p buf buf)
served-acts (Ok p) action replies e words told path buf is at serves = λ files known.
    is-in (Acts action e words files) p buf
    (subst (λ (a : Action). Acts a e words files (task_in p [])) (sym is)
    (subst (λ (o : List ℕ). ServesFile e (files o) (task_in p [])) at (serves files known)))
served-acts (Err f) action replies e words told path buf is at serves = tt

-- to check the stubs of the file at a path
pub checked-acts : {E : Type 0} (x : Result Prepared E) (action : Action) (stubs : ℕ) (e : Coded) (words : List (List ℕ))
    (told : Option Files) (path : List ℕ) (buf : Buf) → action ≡ Check stubs → path ≡ word_at words stubs
    → IfOk x (λ p. (files : Files) → told ≡ Some files → ChecksFile e (files path) (task_in p []))
    → IfOk x (λ p. (files : Files) → told ≡ Some files → ActsIn action e words files p buf buf)
checked-acts (Ok p) action stubs e words told path buf is at checks = λ files known.
    is-in (Acts action e words files) p buf
    (subst (λ (a : Action). Acts a e words files (task_in p [])) (sym is)
    (subst (λ (o : List ℕ). ChecksFile e (files o) (task_in p [])) at (checks files known)))
checked-acts (Err f) action stubs e words told path buf is at checks = tt

-- to write what is counted of messages that were sent
pub made-acts : (action : Action) (number many : ℕ) (e : Coded) (words : List (List ℕ)) (files : Files) (p : Prepared) (text : List ℕ)
    (old new : Buf) → action ≡ Make number many → ((before : List Sending) → task_in p before ≡ writing_task text before (Some e))
    → text ≡ make_text e.binding e.minor number many → IsSpentBy true (all_sent e number many) old new
    → ActsIn action e words files p old new
made-acts action number many e words files p text old new is task same spent =
    let ss = all_sent e number many in
    let alone : p.feed ≡ None = ap (λ (t : Task). t.feed) (task ss) in (
      ss,
      subst (λ (a : Action). Acts a e words files (task_in p ss)) (sym is)
          (task ss ∙ ap (λ (o : List ℕ). writing_task o ss (Some e)) same),
      spent,
      subst (λ (j : Option Job). AreFirst j ss) (sym alone) tt,
    )
