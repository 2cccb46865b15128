use Rattle.std.proofs.Common.{◌≡◌, ℕ, ◌<◌}
use Rattle.stub_rooms.specs.RoomsShown.{room_at}
use Rattle.stub_rooms.proofs.rooms.is_same.Given as goal

-- the rooms so far are the same
abbrev pub invariant-loop-r : goal.invariant-loop-r
invariant-loop-r l = (k : ℕ) → k < l.r → room_at l.a k ≡ room_at l.b k
