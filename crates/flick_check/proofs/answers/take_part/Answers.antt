use Rattle.std.proofs.Common.{◌∙◌, sym}
use Rattle.flick_check.proofs.Going.{received_taken, stub_taken}
use Rattle.flick_check.proofs.answers.take_part.Goals as goal

pub returns-then-starts_with-clause-taken : goal.returns-then-starts_with-clause-taken
returns-then-starts_with-clause-taken c =
    received_taken c.args.engine.now c.args.text.now c.args.out.now c.passed.result
    (sym c.starts_with.ensures.value ∙ c.if-starts_with.true) c.passed.ensures.value

pub returns-in_ok-put_answer-in-Ok-clause-taken : goal.returns-in_ok-put_answer-in-Ok-clause-taken
returns-in_ok-put_answer-in-Ok-clause-taken c =
    stub_taken c.args.engine.now c.args.text.now c.in-Ok.stub.name c.in-Ok.stub.code c.in-Ok.stub.used _ _ c.in-Ok.ensures.stub
    c.in_ok-put_answer-in-Ok.ensures
