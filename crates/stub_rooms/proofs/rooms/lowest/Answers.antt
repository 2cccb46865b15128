use Rattle.std.proofs.Common.{◌≡◌, ap, ◌∙◌, arith}
use Rattle.stub_cover.specs.Rooms.{least_first}
use Rattle.stub_rooms.specs.RoomsShown.{room_at}
use Rattle.stub_rooms.proofs.rooms.lowest.Goals as goal

pub returns : goal.returns
returns c =
    let all : c.loop-r.r ≡ 8 = omega (arith, c.loop-r-test.false) in
    c.loop-r.invariant ∙ ap (λ k. least_first k (room_at c.args.rooms.now)) all
