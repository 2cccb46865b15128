use Rattle.std.proofs.Common.{◌≡◌, option_map}
use Rattle.stub_cover.specs.Rooms.{padded_first}
use Rattle.stub_rooms.specs.RoomsShown.{room_at}
use Rattle.stub_places.specs.Sets.{each_of}
use Rattle.stub_rooms.proofs.rooms.padded.Given as goal

abbrev pub invariant-loop-r : goal.invariant-loop-r
invariant-loop-r l = l.all ≡ option_map each_of (padded_first l.r l.a (room_at l.rooms))
