use Rattle.skeleton.specs.TableSkeleton.{answer_at}
use Rattle.flick_serve.proofs.Answering.{digits_answer}
use Rattle.flick_serve.proofs.Paying.{spelled_paid}
use Rattle.flick_serve.proofs.serving.of_line.Goals as goal

pub returns-in-Ok-clause-value : goal.returns-in-Ok-clause-value
returns-in-Ok-clause-value c =
    digits_answer c.args.engine.now.binding c.args.engine.now.minor (answer_at c.args.kept.now) c.args.line.now
    c.in-Ok.message.items c.as_slice.result.now c.of_message.result c.in-Ok.ensures.ok c.as_slice.ensures.value c.of_message.ensures.value

pub returns-in-Ok-clause-paid : goal.returns-in-Ok-clause-paid
returns-in-Ok-clause-paid c =
    spelled_paid c.args.engine.now (answer_at c.args.kept.now) c.args.line.now c.in-Ok.message.items c.as_slice.result.now
    c.of_message.result _ _ c.in-Ok.ensures.ok c.as_slice.ensures.value c.of_message.ensures.paid
