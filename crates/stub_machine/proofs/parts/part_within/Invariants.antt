use Rattle.std.proofs.Common.{◌≡◌, drop}
use Rattle.mint.specs.Values.{seen}
use Rattle.cast_stub.specs.Parts.{at}
use Rattle.stub_machine.proofs.parts.part_within.Given as goal

abbrev pub invariant-loop-n : goal.invariant-loop-n
invariant-loop-n l = at l.path (seen l.value) ≡ at (drop l.n-index l.path) (seen l.here)
