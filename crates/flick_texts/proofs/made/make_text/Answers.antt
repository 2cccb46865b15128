use Rattle.std.proofs.Common.{length, sym, ap, ◌∙◌}
use Rattle.pres.specs.Bindings.{Binding}
use Rattle.flick_texts.proofs.Making.{line_same, some_messages}
use Rattle.flick_texts.proofs.Spending.{none_sent, so_many_sent}
use Rattle.flick_texts.proofs.made.make_text.Goals as goal
use Rattle.flick_engine.proofs.Replying.{any_ok as on-any}

pub returns-clause-value : goal.returns-clause-value
returns-clause-value c =
    let same = c.ops.ensures.value ∙ ap (λ (b : Binding). b.ops) c.bound.ensures.value in
    line_same c.line-2.result _ _
    (some_messages c.args.engine.now.binding c.args.engine.now.minor c.args.number c.args.many c.in_ok-sums.sums
    (λ none. c.if-len-eq0.false (c.len.ensures ∙ ap length same ∙ none)) c.in_ok-sums.ensures.sums) c.line-2.ensures

pub returns-then-len-eq0-clause-sends : goal.returns-then-len-eq0-clause-sends
returns-then-len-eq0-clause-sends c =
    let same = c.ops.ensures.value ∙ ap (λ (b : Binding). b.ops) c.bound.ensures.value in
    let none = sym (c.len.ensures ∙ ap length same) ∙ c.if-len-eq0.true in
    on-any c.line.result _ (none_sent c.args.engine.now c.args.number c.args.many _ none)

pub returns-clause-sends : goal.returns-clause-sends
returns-clause-sends c =
    let same = c.ops.ensures.value ∙ ap (λ (b : Binding). b.ops) c.bound.ensures.value in
    on-any c.line-2.result _
    (so_many_sent c.args.engine.now c.args.number c.args.many _ _
    (λ none. c.if-len-eq0.false (c.len.ensures ∙ ap length same ∙ none)) c.in_ok-sums.ensures.sends)
