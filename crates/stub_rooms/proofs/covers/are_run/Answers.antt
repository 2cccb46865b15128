use Rattle.std.proofs.Common.{arith}
use Rattle.stub_rooms.specs.CoversLap.{nodes}
use Rattle.stub_rooms.proofs.CoversList.{list_one, list_refused, list_all_run, list_uneven}
use Rattle.stub_rooms.proofs.covers.are_run.Goals as goal

pub returns-then-codes-spots : goal.returns-then-codes-spots
returns-then-codes-spots c =
    list_uneven (nodes c.args.walk.now) c.args.codes.now c.args.spots.now c.if-codes-spots.true

pub loop-i-preserved : goal.loop-i-preserved
loop-i-preserved c =
    list_one (nodes c.args.walk.now) c.args.codes.now c.args.spots.now c.loop-i.i c.loop-i.invariant _ c.loop-i-test.true
    (omega (arith, c.loop-i-test.true, c.if-codes-spots.false)) c.in_ok-runs.ensures c.if-not-runs.false

pub returns-then-not-runs : goal.returns-then-not-runs
returns-then-not-runs c =
    list_refused (nodes c.args.walk.now) c.args.codes.now c.args.spots.now c.loop-i.i c.loop-i.invariant _ c.loop-i-test.true
    (omega (arith, c.loop-i-test.true, c.if-codes-spots.false)) c.in_ok-runs.ensures c.if-not-runs.true

pub returns : goal.returns
returns c =
    list_all_run (nodes c.args.walk.now) c.args.codes.now c.args.spots.now c.loop-i.i c.loop-i.invariant
    (omega (arith, c.loop-i-test.false))
    (omega (arith, c.loop-i-test.false, c.if-codes-spots.false))
