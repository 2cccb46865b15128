use Rattle.std.proofs.Math.ListN.{take}
use Rattle.cast_stub.proofs.Directions.{receives}
use Rattle.stub_lower.proofs.Calling.{AreCalls}
use Rattle.stub_lower.proofs.recv_nodes.add_switch.Given as goal

abbrev pub invariant-loop-n : goal.invariant-loop-n
invariant-loop-n l = AreCalls receives l.cases (take l.n-index l.n-items)
