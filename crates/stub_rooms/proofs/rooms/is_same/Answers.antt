use Rattle.std.proofs.Common.{◌≡◌, length, arith, rules}
use Rattle.stub_rooms.proofs.RoomsEights.{same_more, all_same}
use Rattle.stub_rooms.proofs.rooms.is_same.Goals as goal

pub loop-r-init : goal.loop-r-init
loop-r-init c = λ k less. absurd (omega (arith, less))

pub loop-r-preserved : goal.loop-r-preserved
loop-r-preserved c =
    same_more c.args.a.now c.args.b.now c.loop-r.r c.loop-r.invariant (c.is_same_at-same.ensures c.if-not-same.false)

pub returns : goal.returns
returns c =
    let m : length c.args.a.now ≡ 8 = search rules in
    let n : length c.args.b.now ≡ 8 = search rules in
    λ e. all_same c.args.a.now c.args.b.now c.loop-r.r m n (omega (arith, c.loop-r-test.false)) c.loop-r.invariant
