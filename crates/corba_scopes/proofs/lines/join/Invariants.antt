use Rattle.std.proofs.Common.{◌≡◌, drop}
use Rattle.corba_scopes.specs.Stored.{joined_places}
use Rattle.corba_scopes.proofs.lines.join.Given as goal

abbrev pub invariant-loop-place : goal.invariant-loop-place
invariant-loop-place l = joined_places l.initial.line l.places ≡ joined_places l.line (drop l.place-index l.places)
