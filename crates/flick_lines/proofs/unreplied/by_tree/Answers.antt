use Rattle.flick_lines.proofs.Written.{reply-written}
use Rattle.flick_lines.proofs.unreplied.by_tree.Goals as goal

pub returns : goal.returns
returns c =
    reply-written c.args.engine.now.binding c.args.op c.args.reply.now _ _ c.requires.op
    (rw c.bound.ensures.value at c.in_ok-record.ensures) c.in_ok-to_vec.ensures.text
