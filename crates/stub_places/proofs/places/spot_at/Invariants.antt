use Rattle.std.proofs.Common.{◌≡◌, drop}
use Rattle.stub_flat.specs.Places.{spot_at}
use Rattle.stub_places.proofs.places.spot_at.Given as goal

-- the place at what is left of the path
abbrev pub invariant-loop-field : goal.invariant-loop-field
invariant-loop-field l = spot_at l.mint (drop l.field-index l.path) l.there ≡ spot_at l.mint l.path l.fn.spot
