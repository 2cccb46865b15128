use Rattle.std.proofs.Common.{ℕ, List, sym, ap, ◌∙◌}
use Rattle.flick_top.specs.declared.job.Job.TheVariants as jobs
use Rattle.flick_top.specs.Task.{answering_task}
use Rattle.flick_top.proofs.Bridging.{bridge-prepared, prepared_of}
use Rattle.flick_top.proofs.dispatch.bridging.Goals as goal

pub returns-in-Ok-clause-bridges : goal.returns-in-Ok-clause-bridges
returns-in-Ok-clause-bridges g c = λ files known.
    bridge-prepared c.args.named.now c.args.to (files c.args.path.now) c.in_ok-bridge.field-0 c.of_job.result
    (c.in_ok-bridge.ensures.bridges files known)
    (c.of_job.ensures.value ∙ ap (λ (t : List ℕ). answering_task t (jobs.Bridge c.in-Ok.bridge)) c.new.ensures
    ∙ sym (ap prepared_of c.in-Ok.is))

pub returns-in_ok-of_report-in-Err-clause-bridges : goal.returns-in_ok-of_report-in-Err-clause-bridges
returns-in_ok-of_report-in-Err-clause-bridges g c = λ files known.
    bridge-prepared c.args.named.now c.args.to (files c.args.path.now) c.in_ok-bridge.field-0 c.in_ok-of_report-in-Err.field-0
    (c.in_ok-bridge.ensures.bridges files known)
    (c.in_ok-of_report-in-Err.ensures.value ∙ sym (ap prepared_of c.in-Err.is))
