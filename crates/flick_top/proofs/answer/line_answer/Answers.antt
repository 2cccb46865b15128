use Rattle.std.proofs.Common.{sym, ap, ◌∙◌}
use Rattle.kit_base.specs.declared.lines.Line.TheVariants.{Text}
use Rattle.flick_lines.proofs.Options.{if-ok, if-ok-and}
use Rattle.flick_top.specs.declared.answered.Answered.{Answered}
use Rattle.flick_top.specs.Answer.{is_refusal}
use Rattle.flick_top.proofs.Writing.{end-written, long-written, text-written}
use Rattle.flick_top.proofs.answer.line_answer.Goals as goal

pub returns-in-End-clause-answers : goal.returns-in-End-clause-answers
returns-in-End-clause-answers c =
    end-written c.args.job.now c.args.line.now c.as_answer.result.octets c.as_answer.result.refused c.args.buf.now c.in-End.is
    (c.as_answer.ensures.octets ∙ c.new.ensures) (c.as_answer.ensures.refused ∙ ap is_refusal (sym c.as_answer.ensures.octets))

pub returns-in-Long-clause-answers : goal.returns-in-Long-clause-answers
returns-in-Long-clause-answers c =
    if-ok _ _ _ (λ (a : Answered) h. long-written c.args.job.now c.args.line.now a.octets a.refused c.args.buf.now c.in-Long.is h.0 h.1)
    c.too_long.ensures

pub returns-in-Text-clause-answers : goal.returns-in-Text-clause-answers
returns-in-Text-clause-answers c =
    if-ok-and _ _ _ _
    (λ sends (a : Answered) h. text-written c.args.job.now c.args.line.now c.as_slice.result.now a.octets a.refused c.args.buf.now c.answer.new.buf
    (c.in-Text.is ∙ ap Text (sym c.as_slice.ensures)) sends h)
    c.answer.ensures.value c.answer.ensures.sends
