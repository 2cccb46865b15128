use Rattle.std.proofs.Common.{subst}
use Rattle.stub_codes.specs.Stubs.{Coded}
use Rattle.flick_top.specs.Answer.{IsPartLine}
use Rattle.flick_top.proofs.Writing.{part-written}
use Rattle.flick_top.proofs.answer.answer_to.Goals as goal

pub returns-in_ok-line-in-Part-clause-answers : goal.returns-in_ok-line-in-Part-clause-answers
returns-in_ok-line-in-Part-clause-answers c =
    let line = c.in_ok-line-in-Part.line in
    part-written c.args.job.now c.args.item.now c.in-Part.part line c.as_answer.result.octets c.as_answer.result.refused c.args.buf.now
    c.in-Part.is (subst (λ (e : Coded). IsPartLine e c.in-Part.part line) c.engine.ensures c.in_ok-line-in-Part.ensures)
    c.as_answer.ensures.octets c.as_answer.ensures.refused
