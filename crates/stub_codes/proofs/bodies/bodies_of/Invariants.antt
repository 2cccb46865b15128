use Rattle.std.proofs.Common.{◌≡◌, length}
use Rattle.stub_codes.specs.Lowered.{AreBodies}
use Rattle.stub_codes.proofs.bodies.bodies_of.Given as goal

abbrev pub invariant-loop-i : goal.invariant-loop-i
invariant-loop-i l = record { many : length l.bodies ≡ l.i; each : AreBodies l.subs l.bodies }
