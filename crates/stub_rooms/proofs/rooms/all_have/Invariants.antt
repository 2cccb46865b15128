use Rattle.std.proofs.Common.{◌≡◌}
use Rattle.stub_cover.specs.Rooms.{have_first}
use Rattle.stub_rooms.specs.RoomsShown.{room_at}
use Rattle.stub_rooms.proofs.rooms.all_have.Given as goal

abbrev pub invariant-loop-r : goal.invariant-loop-r
invariant-loop-r l = l.all ≡ have_first l.r l.n (room_at l.rooms)
