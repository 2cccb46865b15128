use Rattle.json_shape.proofs.Seeking.{Sought}
use Rattle.json_shape.proofs.operations.op_named.Given as goal

-- The operations of the interfaces that are left decide.
abbrev pub invariant-loop-k : goal.invariant-loop-k
invariant-loop-k l = Sought l.bound l.text l.from l.k
