use Rattle.std.proofs.Common.{arith}
use Rattle.flick_engine.proofs.DecidingReplies.{exactly_reply}
use Rattle.flick_engine.proofs.engine.Engine.begin_reply.Goals as goal

pub returns-in-Err-clause-err : goal.returns-in-Err-clause-err
returns-in-Err-clause-err c =
    exactly_reply c.args.self.now.binding c.args.op c.args.message.now _
    (omega (arith, c.if-message-gt-LONGEST_MESSAGE.false), c.in-Err.ensures.stops)
