use Rattle.std.proofs.Common.{refl, inl, inr}
use Rattle.stub_rooms.proofs.turns.farther.Goals as goal

pub returns-then-full : goal.returns-then-full
returns-then-full c = record { low = c.least-low.ensures; here = refl; keeps = inr (record { kept = refl; since = refl }) }

pub returns-else-full : goal.returns-else-full
returns-else-full c = record { low = c.least-low.ensures; here = refl; keeps = inl (record { kept = refl; since = refl }) }
