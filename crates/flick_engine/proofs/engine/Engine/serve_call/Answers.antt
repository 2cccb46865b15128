use Rattle.std.proofs.Common.{◌≡◌, None, Some, false, rules}
use Rattle.flick_engine.specs.Serving.{is_answered}
use Rattle.flick_engine.proofs.ServingCosts.{answered_at, unanswered_at}
use Rattle.flick_engine.proofs.engine.Engine.serve_call.Goals as goal

pub returns-then-not-is_answered-clause-cost : goal.returns-then-not-is_answered-clause-cost
returns-then-not-is_answered-clause-cost g c =
    let silent : is_answered c.args.self.now.binding c.args.called.now ≡ false = search rules in
    unanswered_at c.args.self.now (g.S.Skeleton.Answers c.args.skeleton.now) c.args.message.now None c.args.buf.now.spent c.args.buf.now
    c.args.called.now c.requires.begins silent

pub returns-clause-cost : goal.returns-clause-cost
returns-clause-cost g c =
    let r = c.answer_call in
    answered_at c.args.self.now (g.S.Skeleton.Answers c.args.skeleton.now) c.args.message.now (Some r.new.buf.done) c.args.buf.now.spent
    r.new.buf c.args.called.now c.requires.begins c.in_ok-answer_call.ensures.cost
