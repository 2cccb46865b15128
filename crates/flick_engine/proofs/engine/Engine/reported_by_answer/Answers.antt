use Rattle.std.proofs.Common.{arith, refl}
use Rattle.mint.specs.Values.{seen}
use Rattle.flick_engine.specs.Backs.{heard}
use Rattle.flick_engine.proofs.AnsweringReplies.{answer_within, is_trailing_reply, is_answer, is_reply_value}
use Rattle.flick_engine.proofs.DecidingReplies.{exactly_reply}
use Rattle.flick_engine.proofs.engine.Engine.reported_by_answer.Goals as goal

pub overflow_add-end : goal.overflow_add-end
overflow_add-end c =
    let first = (c.requires.value (seen c.in-Value.value) c.in-Value.used).0 (rw c.in-Value.is (refl, refl)) in
    let within = answer_within c.args.self.now.binding c.args.op c.args.message.now
    (heard c.args.self.now.binding c.args.op c.args.reply.now) c.args.arm c.requires.says _ _ first in
    omega (arith, within, c.requires.says.0)

pub returns-then-end-message-clause-err : goal.returns-then-end-message-clause-err
returns-then-end-message-clause-err c =
    let first = (c.requires.value (seen c.in-Value.value) c.in-Value.used).0 (rw c.in-Value.is (refl, refl)) in
    is_trailing_reply c.args.self.now.binding c.args.op c.args.message.now (heard c.args.self.now.binding c.args.op c.args.reply.now)
    c.args.arm c.requires.says _ _ first c.if-end-message.true

pub returns-else-end-message-clause-ok : goal.returns-else-end-message-clause-ok
returns-else-end-message-clause-ok c =
    let first = (c.requires.value (seen c.in-Value.value) c.in-Value.used).0 (rw c.in-Value.is (refl, refl)) in
    is_answer c.args.self.now.binding c.args.op c.args.message.now (heard c.args.self.now.binding c.args.op c.args.reply.now) c.args.arm
    c.requires.says _ _ first (omega (arith, c.if-end-message.false))

pub returns-else-end-message-clause-typed : goal.returns-else-end-message-clause-typed
returns-else-end-message-clause-typed c =
    let first = (c.requires.value (seen c.in-Value.value) c.in-Value.used).0 (rw c.in-Value.is (refl, refl)) in
    is_reply_value c.args.self.now.binding c.args.op c.args.message.now (heard c.args.self.now.binding c.args.op c.args.reply.now)
    c.args.arm c.requires.says _ _ first c.requires.choice c.requires.there c.requires.sound (omega (arith, c.ranges.arm.fits))

pub returns-in-Stop-clause-err : goal.returns-in-Stop-clause-err
returns-in-Stop-clause-err c =
    let stops = (c.requires.stop c.in-Stop.fault.kind c.in-Stop.fault.at).0 (rw c.in-Stop.is (refl, refl)) in
    exactly_reply c.args.self.now.binding c.args.op c.args.message.now _
    (heard c.args.self.now.binding c.args.op c.args.reply.now, c.args.arm, c.requires.says, stops)
