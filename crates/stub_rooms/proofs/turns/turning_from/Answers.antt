use Rattle.std.proofs.Common.{refl}
use Rattle.stub_rooms.proofs.turns.turning_from.Goals as goal

pub returns : goal.returns
returns c = record { low = c.no_rooms.ensures; here = refl; kept = refl; since = refl }
