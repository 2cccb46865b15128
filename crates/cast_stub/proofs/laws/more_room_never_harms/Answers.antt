use Rattle.cast_stub.proofs.Folding.{room-more}
use Rattle.cast_stub.proofs.laws.more_room_never_harms.Goals as goal

pub returns : goal.returns
returns c = room-more
