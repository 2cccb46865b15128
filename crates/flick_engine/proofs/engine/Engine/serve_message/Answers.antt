use Rattle.std.proofs.Common.{arith}
use Rattle.flick_engine.proofs.Replying.{call_due, fault_due}
use Rattle.flick_engine.proofs.ServingCosts.{stopped_at, stopped_view}
use Rattle.flick_engine.proofs.engine.Engine.serve_message.Goals as goal

pub returns-in-Err-clause-cost : goal.returns-in-Err-clause-cost
returns-in-Err-clause-cost g c =
    let r = c.answer_fault in
    stopped_at c.args.self.now (g.S.Skeleton.Answers c.args.skeleton.now) c.args.message.now r.new.buf.done c.args.buf.now.spent r.new.buf
    r.result c.in-Err.fault c.in-Err.ensures.stops

pub returns-in-Err-clause-code : goal.returns-in-Err-clause-code
returns-in-Err-clause-code g c =
    stopped_view c.args.self.now c.args.message.now c.args.view.now c.args.view.now c.requires.message c.answer_fault.result c.in-Err.fault
    c.in-Err.ensures.stops

pub returns-in-Ok-clause-long : goal.returns-in-Ok-clause-long
returns-in-Ok-clause-long g c long = absurd (omega (arith, long, c.if-message-gt-LONGEST_MESSAGE.false))

pub returns-in-Err-clause-long : goal.returns-in-Err-clause-long
returns-in-Err-clause-long g c long = absurd (omega (arith, long, c.if-message-gt-LONGEST_MESSAGE.false))

pub returns-in-Ok-clause-memory : goal.returns-in-Ok-clause-memory
returns-in-Ok-clause-memory g c =
    call_due c.serve_call.result c.args.self.now.binding c.args.self.now.minor c.args.message.now c.in-Ok.called
    (omega (arith, c.if-message-gt-LONGEST_MESSAGE.false)) c.in-Ok.ensures.begins c.serve_call.ensures.memory

pub returns-in-Err-clause-memory : goal.returns-in-Err-clause-memory
returns-in-Err-clause-memory g c =
    fault_due c.answer_fault.result c.args.self.now.binding c.args.self.now.minor c.args.message.now c.in-Err.fault
    (omega (arith, c.if-message-gt-LONGEST_MESSAGE.false)) c.in-Err.ensures.stops c.answer_fault.ensures.memory
