use Rattle.std.proofs.Common.{◌≡◌, option_map, ap, ◌∙◌, arith}
use Rattle.stub_cover.specs.Rooms.{padded_first}
use Rattle.stub_cover.specs.Rooms.{padded_one as the_one}
use Rattle.stub_rooms.specs.RoomsShown.{room_at}
use Rattle.stub_places.specs.Sets.{each_of}
use Rattle.stub_rooms.proofs.RoomsEights.{padded_more}
use Rattle.stub_rooms.proofs.rooms.padded.Goals as goal

pub returns : goal.returns
returns c =
    let all : c.loop-r.r ≡ 8 = omega (arith, c.loop-r-test.false) in
    c.loop-r.invariant ∙ ap (λ k. option_map each_of (padded_first k c.args.a (room_at c.args.rooms.now))) all

pub loop-r-preserved : goal.loop-r-preserved
loop-r-preserved c =
    padded_more c.loop-r.r c.args.a (room_at c.args.rooms.now) c.padded_one.result c.loop-r.all c.joined-all.result
    (c.padded_one.ensures ∙ ap (λ x. option_map each_of (the_one c.loop-r.r c.args.a x)) c.room.ensures) c.loop-r.invariant
    c.joined-all.ensures
