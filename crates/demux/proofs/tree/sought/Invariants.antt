use Rattle.std.proofs.Common.{◌≡◌}
use Rattle.kit_base.specs.Causes.{raised}
use Rattle.demux.proofs.Finding.{Seeks}
use Rattle.demux.proofs.tree.sought.Given as goal

-- what the words that are left find is what the name finds
abbrev pub invariant-loop-i : goal.invariant-loop-i
invariant-loop-i l = record {
  seeks : Seeks l.nodes l.fn.name.name l.i l.node;
  same : l.name.name ≡ l.fn.name.name;
  reads : l.name.reads ≡ raised l.fn.name.reads l.i;
}
