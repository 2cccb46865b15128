use Rattle.demux.proofs.Finding.{Along}
use Rattle.demux.proofs.tree.node_of.Given as goal

-- the node to which the length and so many words lead
abbrev pub invariant-loop-i : goal.invariant-loop-i
invariant-loop-i l = Along l.fn.nodes.items l.nodes.items l.name l.i l.node
