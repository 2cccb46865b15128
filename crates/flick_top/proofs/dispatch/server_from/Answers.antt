use Rattle.std.proofs.Common.{◌≡◌, [], IfOk, ap, ◌∙◌, subst}
use Rattle.flick_serve.specs.Served.{AgreesWith}
use Rattle.flick_top.specs.declared.job.Job.TheVariants as jobs
use Rattle.flick_top.specs.Task.{answering_task, task_in}
use Rattle.flick_top.proofs.Servers.{by_server}
use Rattle.flick_top.proofs.dispatch.server_from.Goals as goal

pub returns-in-Ok-clause-serves : goal.returns-in-Ok-clause-serves
returns-in-Ok-clause-serves c =
    let g = c.in_ok-server.ensures.gives in
    by_server c.args.engine c.args.text c.in-Ok.server g.0 g.1 (subst (λ r. AgreesWith r g.0) c.in-Ok.is g.2)
    (subst (λ r. IfOk r (λ s. s ≡ record { coded = c.args.engine; text = c.args.text })) c.in-Ok.is c.in_ok-server.ensures.is)
    (task_in c.of_job.result [])
    (c.of_job.ensures.value ∙ ap (λ z. answering_task z (jobs.Serve c.in-Ok.server)) c.new-in-Ok.ensures)
