use Rattle.std.proofs.Common.{Option, subst}
use Rattle.std.specs.Prelude.{IfSome}
use Rattle.stub_codes.specs.Stubs.{IsCoded}
use Rattle.flick_top.specs.declared.job.Job.{Job}
use Rattle.flick_top.specs.Answer.{IsAnswering}
use Rattle.flick_top.specs.Dispatch.{AreAnswered}
use Rattle.flick_top.specs.Task.{engine_in, engine_with}
use Rattle.flick_top.specs.Turn.{FeedCanReply}
use Rattle.flick_top.proofs.Doing.{after-text, text-alone, text-broken}
use Rattle.flick_top.proofs.turns.perform.Goals as goal

pub answer_items-requires : goal.answer_items-requires
answer_items-requires g c = record { replies = subst FeedCanReply c.in-Some.is c.requires.ready.1 }

pub returns-in-Err-clause-done : goal.returns-in-Err-clause-done
returns-in-Err-clause-done g c = λ f all coded.
    text-broken c.args.prepared.now f _ _ _ _ _ coded (rw c.as_slice.ensures at c.in-Err.ensures.err)

pub returns-in-Some-clause-done : goal.returns-in-Some-clause-done
returns-in-Some-clause-done g c = λ f all coded.
    let p = c.args.prepared.now in
    let made : IsCoded (engine_in c.in-Some.job) =
    subst (λ (j : Option Job). IfSome (engine_with j p.idle) IsCoded) c.in-Some.is coded in
    let answers : IsAnswering c.in-Some.job f = subst (λ (j : Option Job). AreAnswered j f) c.in-Some.is all in
    after-text p c.in-Some.job f _ _ _ _ _ _ _ _ _ _ c.in-Some.is c.requires.ready (rw c.as_slice.ensures at c.in_default.ensures.ok)
    (c.answer_items.ensures.done f answers made)

pub returns-in-None-clause-done : goal.returns-in-None-clause-done
returns-in-None-clause-done g c = λ f all coded.
    text-alone c.args.prepared.now f _ _ _ _ _ c.in-None.is c.requires.ready coded (rw c.as_slice.ensures at c.in_default.ensures.ok)
