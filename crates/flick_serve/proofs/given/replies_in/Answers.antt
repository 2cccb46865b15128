use Rattle.std.proofs.Common.{length, ap, ◌∙◌}
use Rattle.pres.specs.Bindings.{Binding}
use Rattle.flick_serve.proofs.Filing.{starts, file_read, file_wrong}
use Rattle.flick_serve.proofs.given.replies_in.Goals as goal

pub returns-in-None-clause-gives : goal.returns-in-None-clause-gives
returns-in-None-clause-gives c =
    let b = c.args.engine.now.binding in
    let many = c.len.ensures ∙ ap length c.ops.ensures.value ∙ ap (λ (x : Binding). length x.ops) c.bound.ensures.value in
    file_read b c.args.text.now c.in_ok-replies.replies c.read_lines.new.replies
    (starts b c.len.result c.in_ok-replies.replies many c.in_ok-replies.ensures) c.in_ok-read_lines.field-0
    c.in_ok-read_lines.ensures.gives c.in-None.is

pub returns-clause-gives : goal.returns-clause-gives
returns-clause-gives c =
    let b = c.args.engine.now.binding in
    let many = c.len.ensures ∙ ap length c.ops.ensures.value ∙ ap (λ (x : Binding). length x.ops) c.bound.ensures.value in
    file_wrong b c.args.text.now c.in_ok-replies.replies c.read_lines.new.replies
    (starts b c.len.result c.in_ok-replies.replies many c.in_ok-replies.ensures) c.in_ok-read_lines.field-0
    c.in_ok-read_lines.ensures.gives c.in-Some.wrong c.in-Some.is
