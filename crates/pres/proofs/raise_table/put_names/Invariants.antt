use Rattle.pres.proofs.Found.{FindsFrom}
use Rattle.pres.proofs.raise_table.put_names.Given as goal

-- the names from a place on are found
abbrev pub invariant-loop-number : goal.invariant-loop-number
invariant-loop-number l = FindsFrom l.names l.number l.table

abbrev pub decreases-loop-number : goal.decreases-loop-number
decreases-loop-number l = l.number
