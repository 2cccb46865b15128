use Rattle.demux.proofs.Finding.{FindsFrom}
use Rattle.demux.proofs.picking.put_places.Given as goal

-- the names from a place on are found
abbrev pub invariant-loop-place : goal.invariant-loop-place
invariant-loop-place l = FindsFrom l.names l.place l.nodes.items

abbrev pub decreases-loop-place : goal.decreases-loop-place
decreases-loop-place l = l.place
