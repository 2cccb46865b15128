use Rattle.std.proofs.Common.{◌≡◌, List, ℕ, None}
use Rattle.demux.specs.Spelled.{AreOctets}
use Rattle.demux.specs.Trees.{IsTree, place_in}
use Rattle.demux.proofs.picking.nodes_of.Given as goal

-- no name is found
abbrev pub invariant-loop-item : goal.invariant-loop-item
invariant-loop-item l = record {
  tree : IsTree l.nodes.items;
  empty : (s : List ℕ) → AreOctets s → place_in l.nodes.items s ≡ None;
}
