use Rattle.std.proofs.Common.{Some}
use Rattle.flick_engine.specs.declared.errors.MessageErr.TheVariants as err
use Rattle.flick_engine.proofs.Deciding.{exactly}
use Rattle.flick_engine.proofs.Replying.{refused, requested}
use Rattle.flick_engine.proofs.ServingCosts.{refused_at, requested_at, refused_view, requested_view}
use Rattle.flick_engine.proofs.engine.Engine.answer_call.Goals as goal

pub refuse_call-requires-clause-is : goal.refuse_call-requires-clause-is
refuse_call-requires-clause-is g c =
    exactly c.args.self.now.binding c.args.message.now _ (c.args.called.now, (c.requires.short, c.requires.begins, c.in-NoInterface.is))

pub refuse_call-requires-in-NoOperation-clause-is : goal.refuse_call-requires-in-NoOperation-clause-is
refuse_call-requires-in-NoOperation-clause-is g c =
    exactly c.args.self.now.binding c.args.message.now _ (c.args.called.now, (c.requires.short, c.requires.begins, c.in-NoOperation.is))

pub returns-in-NoInterface-clause-answers : goal.returns-in-NoInterface-clause-answers
returns-in-NoInterface-clause-answers g c =
    refused c.args.self.now.binding c.args.self.now.minor (g.S.Skeleton.Answers c.args.skeleton.now) c.args.message.now
    c.refuse_call.result c.args.called.now
    err.NoInterface (Some c.refuse_call.new.buf.done) c.refuse_call.ensures.ok c.refuse_call.ensures.there

pub returns-in-NoOperation-clause-answers : goal.returns-in-NoOperation-clause-answers
returns-in-NoOperation-clause-answers g c =
    let r = c.refuse_call-in-NoOperation in
    refused c.args.self.now.binding c.args.self.now.minor (g.S.Skeleton.Answers c.args.skeleton.now) c.args.message.now
    r.result c.args.called.now
    err.NoOperation (Some r.new.buf.done) r.ensures.ok r.ensures.there

pub returns-in-Ok-clause-answers : goal.returns-in-Ok-clause-answers
returns-in-Ok-clause-answers g c =
    let r = c.answer_request in
    requested c.args.self.now.binding c.args.self.now.minor (g.S.Skeleton.Answers c.args.skeleton.now) c.args.message.now
    r.result c.args.called.now
    c.in-Ok.request (Some r.new.buf.done) c.in-Ok.ensures.read r.ensures.answers

pub returns-in-Err-clause-answers : goal.returns-in-Err-clause-answers
returns-in-Err-clause-answers g c =
    let r = c.refuse_call-in-Err in
    refused c.args.self.now.binding c.args.self.now.minor (g.S.Skeleton.Answers c.args.skeleton.now) c.args.message.now
    r.result c.args.called.now
    c.in-Err.fault (Some r.new.buf.done) r.ensures.ok r.ensures.there

pub returns-in-NoInterface-clause-cost : goal.returns-in-NoInterface-clause-cost
returns-in-NoInterface-clause-cost g c =
    let r = c.refuse_call in
    refused_at c.args.self.now (g.S.Skeleton.Answers c.args.skeleton.now) c.args.message.now (Some r.new.buf.done) c.args.buf.now.spent
    r.new.buf r.result c.args.called.now err.NoInterface r.ensures.there

pub returns-in-NoOperation-clause-cost : goal.returns-in-NoOperation-clause-cost
returns-in-NoOperation-clause-cost g c =
    let r = c.refuse_call-in-NoOperation in
    refused_at c.args.self.now (g.S.Skeleton.Answers c.args.skeleton.now) c.args.message.now (Some r.new.buf.done) c.args.buf.now.spent
    r.new.buf r.result c.args.called.now err.NoOperation r.ensures.there

pub returns-in-Ok-clause-cost : goal.returns-in-Ok-clause-cost
returns-in-Ok-clause-cost g c =
    let r = c.answer_request in
    requested_at c.args.self.now (g.S.Skeleton.Answers c.args.skeleton.now) c.args.message.now (Some r.new.buf.done) c.args.buf.now.spent
    r.new.buf r.result c.args.called.now c.in-Ok.request c.in-Ok.ensures.read r.ensures.cost

pub returns-in-Err-clause-cost : goal.returns-in-Err-clause-cost
returns-in-Err-clause-cost g c =
    let r = c.refuse_call-in-Err in
    refused_at c.args.self.now (g.S.Skeleton.Answers c.args.skeleton.now) c.args.message.now (Some r.new.buf.done) c.args.buf.now.spent
    r.new.buf r.result c.args.called.now c.in-Err.fault r.ensures.there

pub returns-in-NoInterface-clause-code : goal.returns-in-NoInterface-clause-code
returns-in-NoInterface-clause-code g c =
    refused_view c.args.self.now c.args.message.now c.args.view.now c.args.view.now c.requires.message c.refuse_call.result err.NoInterface
    c.refuse_call.ensures.there

pub returns-in-NoOperation-clause-code : goal.returns-in-NoOperation-clause-code
returns-in-NoOperation-clause-code g c =
    let r = c.refuse_call-in-NoOperation in
    refused_view c.args.self.now c.args.message.now c.args.view.now c.args.view.now c.requires.message r.result err.NoOperation
    r.ensures.there

pub returns-in-Ok-clause-code : goal.returns-in-Ok-clause-code
returns-in-Ok-clause-code g c =
    requested_view c.args.self.now c.args.message.now c.args.view.now c.read_body.new.view c.requires.message c.answer_request.result
    c.in-Ok.request c.in-Ok.ensures.read c.in-Ok.ensures.code

pub returns-in-Err-clause-code : goal.returns-in-Err-clause-code
returns-in-Err-clause-code g c =
    let r = c.refuse_call-in-Err in
    refused_view c.args.self.now c.args.message.now c.args.view.now c.read_body.new.view c.requires.message r.result c.in-Err.fault
    r.ensures.there
