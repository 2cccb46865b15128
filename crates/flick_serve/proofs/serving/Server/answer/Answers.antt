use Rattle.std.proofs.Common.{ap, ◌∙◌}
use Rattle.pres.specs.Bindings.{Binding}
use Rattle.skeleton.proofs.Keeping.{with_table}
use Rattle.flick_serve.specs.Served.{Serving}
use Rattle.flick_serve.proofs.Answering.{line_served}
use Rattle.flick_serve.proofs.Paying.{line_paid}
use Rattle.flick_serve.proofs.serving.Server.answer.Goals as goal

pub returns-clause-value : goal.returns-clause-value
returns-clause-value c =
    let t : Serving = record { coded = c.self.inside.engine; text = c.self.inside.text } in
    let kept = c.new-kept.ensures ∙ ap (λ (b : Binding). with_table b c.self.inside.replies) c.bound.ensures.value in
    line_served c.args.self.now t c.self.inside.replies c.new-kept.result c.args.line.now c.of_line.result c.self.view_is
    c.self.invariant kept c.of_line.ensures.value

pub returns-clause-paid : goal.returns-clause-paid
returns-clause-paid c =
    let t : Serving = record { coded = c.self.inside.engine; text = c.self.inside.text } in
    let kept = c.new-kept.ensures ∙ ap (λ (b : Binding). with_table b c.self.inside.replies) c.bound.ensures.value in
    line_paid c.args.self.now t c.self.inside.replies c.new-kept.result c.args.line.now c.of_line.result _ _ c.self.view_is
    c.self.invariant kept c.of_line.ensures.paid
