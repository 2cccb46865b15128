use Rattle.flick_engine.proofs.Arming.{both_so, covered-as, err_so, long_so, ok_so, sparing-as}
use Rattle.flick_engine.proofs.engine.Engine.reply_in_version.Goals as goal

pub reply-requires-clause-minor : goal.reply-requires-clause-minor
reply-requires-clause-minor c = rw c.stubs.ensures c.requires.minor

pub reply-requires-clause-arm : goal.reply-requires-clause-arm
reply-requires-clause-arm c = rw c.stubs.ensures c.reply_arm-arm.ensures.there

pub reply-requires-clause-typed : goal.reply-requires-clause-typed
reply-requires-clause-typed c = rw c.stubs.ensures c.reply_arm-arm.ensures.typed

pub returns-clause-ok : goal.returns-clause-ok
returns-clause-ok c =
    rw c.reply_arm-arm.ensures.is
    (rw c.stubs.ensures at (ok_so c.reply.result c.ended.result c.ended.ensures _ c.reply.ensures.ok))

pub returns-clause-short : goal.returns-clause-short
returns-clause-short c =
    rw c.reply_arm-arm.ensures.is
    (rw c.stubs.ensures at (ok_so c.reply.result c.ended.result c.ended.ensures _ c.reply.ensures.short))

pub returns-clause-cost : goal.returns-clause-cost
returns-clause-cost c =
    rw c.reply_arm-arm.ensures.is
    (rw c.stubs.ensures at
    (both_so c.reply.result c.ended.result c.ended.ensures _ _ c.reply.ensures.tally c.reply.ensures.spent))

pub returns-clause-covered : goal.returns-clause-covered
returns-clause-covered c = covered-as _ _ _ _ _ _ _ _ c.stubs.ensures c.reply_arm-arm.ensures.is c.reply.ensures.covered

pub returns-clause-sparing : goal.returns-clause-sparing
returns-clause-sparing c = sparing-as _ _ _ _ _ _ _ _ c.stubs.ensures c.reply_arm-arm.ensures.is c.reply.ensures.sparing

pub returns-clause-long : goal.returns-clause-long
returns-clause-long c e =
    let stop = long_so c.reply.result c.ended.result c.ended.ensures e in
    rw c.reply_arm-arm.ensures.is (rw c.stubs.ensures at (c.reply.ensures.long stop))

pub returns-clause-err : goal.returns-clause-err
returns-clause-err c = err_so c.reply.result c.ended.result c.ended.ensures _ c.reply.ensures.err
