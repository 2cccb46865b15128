use Rattle.stub_lower.proofs.RecvWhole.{AreLowered}
use Rattle.stub_lower.proofs.recv_nodes.lower_recv.Given as goal

abbrev pub invariant-loop-id : goal.invariant-loop-id
invariant-loop-id l = AreLowered l.fn.enc l.mint l.id l.subs
