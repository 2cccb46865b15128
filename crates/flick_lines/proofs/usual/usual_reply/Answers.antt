use Rattle.json_shape.specs.Replies.{reply_of}
use Rattle.flick_lines.proofs.WithoutTrees.{usual-line}
use Rattle.flick_lines.proofs.usual.usual_reply.Goals as goal

pub returns-in-Ok-clause-reply : goal.returns-in-Ok-clause-reply
returns-in-Ok-clause-reply c =
    usual-line (reply_of c.args.engine.now.binding) c.args.line.now c.in-Ok.text.now c.direct_reply.result c.in-Ok.ensures.cases
    (rw c.bound.ensures.value at c.direct_reply.ensures.reply)
