use Rattle.json_shape.specs.Replies.{reply_of}
use Rattle.flick_lines.specs.Marshalled.{reply_digits}
use Rattle.flick_lines.specs.Paid.{reply_by_code}
use Rattle.flick_lines.proofs.Options.{if-ok, on-ok}
use Rattle.flick_lines.proofs.WithoutTrees.{usual-paid, usual-value}
use Rattle.flick_lines.proofs.replied.reply.Goals as goal

pub returns-in-Some-clause-value : goal.returns-in-Some-clause-value
returns-in-Some-clause-value c =
    let b = c.args.engine.now.binding in
    if-ok _ _ _ (usual-value (reply_digits b c.args.engine.now.minor) (reply_of b) c.args.line.now c.in-Some.record
    (rw c.in-Some.is at c.in_ok-record.ensures.reply)) c.digits_of.ensures.value

pub returns-in-Some-clause-paid : goal.returns-in-Some-clause-paid
returns-in-Some-clause-paid c =
    on-ok _ _ _ (usual-paid (reply_by_code c.args.engine.now) (reply_of c.args.engine.now.binding) c.args.line.now c.in-Some.record
    (rw c.in-Some.is at c.in_ok-record.ensures.reply) _ _) c.digits_of.ensures.paid
