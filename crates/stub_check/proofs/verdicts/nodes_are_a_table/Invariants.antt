use Rattle.stub_check.proofs.Nodes.{AreBelow}
use Rattle.stub_check.proofs.verdicts.nodes_are_a_table.Given as goal

-- The nodes so far stand behind their children.
abbrev pub invariant-loop-k : goal.invariant-loop-k
invariant-loop-k l = AreBelow l.mint l.k
