use Rattle.std.proofs.Common.{◌≡◌, ℕ, true, List, [], Some, refl, sym, ap, ◌∙◌, subst}
use Rattle.flick_top.specs.declared.command.Action.{Action}
use Rattle.flick_top.specs.Dispatch.{Acts}
use Rattle.flick_top.specs.Command.{sends_replies, IsOverItems}
use Rattle.flick_top.specs.declared.job.Job.TheVariants as jobs
use Rattle.flick_top.specs.Task.{answering_task, task_in, writing_task}
use Rattle.flick_top.proofs.Coding.{action-coded}
use Rattle.flick_top.proofs.OverFiles.{served-acts, checked-acts, made-acts}
use Rattle.flick_top.proofs.Reading.{over_items}
use Rattle.flick_top.proofs.Tasking.{is-in}
use Rattle.flick_top.proofs.dispatch.run_action.Goals as goal

pub answering-requires : goal.answering-requires
answering-requires g c = record { answers = action-coded c.args.action c.in-Answer.verb c.args.engine c.in-Answer.is c.requires.answers }

pub serve_file-requires : goal.serve_file-requires
serve_file-requires g c =
    record { answers = c.requires.answers (subst (λ (a : Action). sends_replies a ≡ true) (sym c.in-Serve.is) refl) }

pub returns-in-Serve-clause-items : goal.returns-in-Serve-clause-items
returns-in-Serve-clause-items g c =
    over_items (IsOverItems c.args.action) c.serve_file.result (subst IsOverItems (sym c.in-Serve.is) tt)

pub returns-in_ok-answering-in-Answer-clause-acts : goal.returns-in_ok-answering-in-Answer-clause-acts
returns-in_ok-answering-in-Answer-clause-acts g c = λ files told.
    let p = c.in_ok-answering-in-Answer.field-0 in
    is-in (Acts c.args.action c.args.engine c.args.words.now files) p _
    (subst (λ (a : Action). Acts a c.args.engine c.args.words.now files (task_in p [])) (sym c.in-Answer.is)
    c.in_ok-answering-in-Answer.ensures.value)

pub returns-in-Pipe-clause-acts : goal.returns-in-Pipe-clause-acts
returns-in-Pipe-clause-acts g c = λ files told.
    let p = c.of_job.result in
    is-in (Acts c.args.action c.args.engine c.args.words.now files) p _
    (subst (λ (a : Action). Acts a c.args.engine c.args.words.now files (task_in p [])) (sym c.in-Pipe.is)
    (c.of_job.ensures.value ∙ ap (λ (t : List ℕ). answering_task t (jobs.Pipe c.args.engine)) c.new.ensures))

pub returns-in-Unpipe-clause-acts : goal.returns-in-Unpipe-clause-acts
returns-in-Unpipe-clause-acts g c = λ files told.
    let p = c.of_job-in-Unpipe.result in
    is-in (Acts c.args.action c.args.engine c.args.words.now files) p _
    (subst (λ (a : Action). Acts a c.args.engine c.args.words.now files (task_in p [])) (sym c.in-Unpipe.is)
    (c.of_job-in-Unpipe.ensures.value ∙ ap (λ (t : List ℕ). answering_task t (jobs.Unpipe c.args.engine)) c.new-in-Unpipe.ensures))

pub returns-in-Serve-clause-acts : goal.returns-in-Serve-clause-acts
returns-in-Serve-clause-acts g c =
    served-acts c.serve_file.result c.args.action c.in-Serve.replies c.args.engine c.args.words.now _ c.word_at.result.now _ c.in-Serve.is
    c.word_at.ensures c.serve_file.ensures.serves

pub returns-in_ok-text-in-Stubs-clause-acts : goal.returns-in_ok-text-in-Stubs-clause-acts
returns-in_ok-text-in-Stubs-clause-acts g c = λ files told.
    let p = c.of_text.result in
    is-in (Acts c.args.action c.args.engine c.args.words.now files) p _
    (subst (λ (a : Action). Acts a c.args.engine c.args.words.now files (task_in p [])) (sym c.in-Stubs.is)
    (c.of_text.ensures.alone ∙ ap (λ (t : List ℕ). writing_task t [] (Some c.args.engine)) c.in_ok-text-in-Stubs.ensures.value))

pub returns-in_ok-text-in-Make-clause-acts : goal.returns-in_ok-text-in-Make-clause-acts
returns-in_ok-text-in-Make-clause-acts g c = λ files told.
    made-acts c.args.action c.in-Make.number c.in-Make.many c.args.engine c.args.words.now files c.of_text-in-Make.result
    c.in_ok-text-in-Make.text _ _ c.in-Make.is c.of_text-in-Make.ensures.value c.in_ok-text-in-Make.ensures.value
    c.in_ok-text-in-Make.ensures.sends

pub returns-in-Check-clause-acts : goal.returns-in-Check-clause-acts
returns-in-Check-clause-acts g c =
    checked-acts c.check_file.result c.args.action c.in-Check.stubs c.args.engine c.args.words.now _ c.word_at-in-Check.result.now _
    c.in-Check.is c.word_at-in-Check.ensures c.check_file.ensures.checks
