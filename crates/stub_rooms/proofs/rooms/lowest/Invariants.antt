use Rattle.std.proofs.Common.{◌≡◌}
use Rattle.stub_cover.specs.Rooms.{least_first}
use Rattle.stub_rooms.specs.RoomsShown.{room_at}
use Rattle.stub_rooms.proofs.rooms.lowest.Given as goal

abbrev pub invariant-loop-r : goal.invariant-loop-r
invariant-loop-r l = l.low ≡ least_first l.r (room_at l.rooms)
