use Rattle.std.proofs.Common.{arith}
use Rattle.flick_engine.proofs.Deciding.{exactly}
use Rattle.flick_engine.proofs.engine.Engine.begin.Goals as goal

pub returns-in-NoInterface-clause-err : goal.returns-in-NoInterface-clause-err
returns-in-NoInterface-clause-err c =
    exactly c.args.self.now.binding c.args.message.now _
    (c.in-Ok.called, (omega (arith, c.if-message-gt-LONGEST_MESSAGE.false), c.in-Ok.ensures.begins, c.in-NoInterface.is))

pub returns-in-NoOperation-clause-err : goal.returns-in-NoOperation-clause-err
returns-in-NoOperation-clause-err c =
    exactly c.args.self.now.binding c.args.message.now _
    (c.in-Ok.called, (omega (arith, c.if-message-gt-LONGEST_MESSAGE.false), c.in-Ok.ensures.begins, c.in-NoOperation.is))

pub returns-in-Err-clause-err : goal.returns-in-Err-clause-err
returns-in-Err-clause-err c =
    exactly c.args.self.now.binding c.args.message.now _ (omega (arith, c.if-message-gt-LONGEST_MESSAGE.false), c.in-Err.ensures.stops)
