use Rattle.std.proofs.Common.{sym, ◌∙◌}
use Rattle.flick_check.specs.Checked.{op_of}
use Rattle.flick_check.proofs.Going.{answer_put}
use Rattle.flick_check.proofs.answers.put_answer.Goals as goal

pub returns-in_ok-verdict-in-Some : goal.returns-in_ok-verdict-in-Some
returns-in_ok-verdict-in-Some c =
    answer_put c.put_line.result c.args.engine.now c.args.stub.now.name c.args.stub.now.code
    (op_of c.args.engine.now.binding c.args.stub.now.name) c.in-Some.op c.in_ok-verdict-in-Some.verdict c.words_of.result.now
    c.as_slice-name.result.now _ _ (rw (c.bound.ensures.value, c.as_slice-name.ensures) at (sym c.in_ok-op.ensures.value ∙ c.in-Some.is))
    c.in_ok-verdict-in-Some.ensures c.words_of.ensures c.as_slice-name.ensures c.put_line.ensures
