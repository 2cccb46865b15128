use Rattle.std.proofs.Common.{subst}
use Rattle.mint.specs.Values.{seen}
use Rattle.stub_codes.specs.Stubs.{Coded, IsCoveredRequest, IsSparingRequest}
use Rattle.flick_engine.proofs.Arming.{both_so, err_so, long_so, ok_so}
use Rattle.flick_engine.proofs.engine.Engine.marshal.Goals as goal

pub returns-clause-ok : goal.returns-clause-ok
returns-clause-ok c = rw c.stubs.ensures at (ok_so c.send.result c.ended.result c.ended.ensures _ c.send.ensures.ok)

pub returns-clause-short : goal.returns-clause-short
returns-clause-short c = rw c.stubs.ensures at (ok_so c.send.result c.ended.result c.ended.ensures _ c.send.ensures.short)

pub returns-clause-cost : goal.returns-clause-cost
returns-clause-cost c =
    rw c.stubs.ensures at
    (both_so c.send.result c.ended.result c.ended.ensures _ _ c.send.ensures.tally c.send.ensures.spent)

pub returns-clause-covered : goal.returns-clause-covered
returns-clause-covered c =
    subst (λ (x : Coded). IsCoveredRequest x c.args.op c.args.head.now (seen c.args.value.now)) c.stubs.ensures c.send.ensures.covered

pub returns-clause-sparing : goal.returns-clause-sparing
returns-clause-sparing c =
    subst (λ (x : Coded). IsSparingRequest x c.args.op c.args.head.now (seen c.args.value.now)) c.stubs.ensures c.send.ensures.sparing

pub returns-clause-long : goal.returns-clause-long
returns-clause-long c e =
    rw c.stubs.ensures at (c.send.ensures.long (long_so c.send.result c.ended.result c.ended.ensures e))

pub returns-clause-err : goal.returns-clause-err
returns-clause-err c = err_so c.send.result c.ended.result c.ended.ensures _ c.send.ensures.err
