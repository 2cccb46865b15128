use Rattle.json_shape.proofs.Seeking.{Sourcing}
use Rattle.json_shape.proofs.operations.source_in.Given as goal

-- The place among the operations of the interfaces that are left.
abbrev pub invariant-loop-j : goal.invariant-loop-j
invariant-loop-j l = Sourcing l.back l.interfaces l.ops l.k l.from l.j l.left
