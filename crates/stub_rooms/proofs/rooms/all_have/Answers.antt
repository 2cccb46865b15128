use Rattle.std.proofs.Common.{◌≡◌, ap, ◌∙◌, arith}
use Rattle.stub_cover.specs.Rooms.{have_first}
use Rattle.stub_rooms.specs.RoomsShown.{room_at}
use Rattle.stub_rooms.proofs.rooms.all_have.Goals as goal

pub returns : goal.returns
returns c =
    let all : c.loop-r.r ≡ 8 = omega (arith, c.loop-r-test.false) in
    c.loop-r.invariant ∙ ap (λ k. have_first k c.args.n (room_at c.args.rooms.now)) all
