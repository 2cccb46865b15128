use Rattle.std.proofs.Common.{◌≡◌, drop}
use Rattle.mint.specs.Types.{Scalar, scalar_type}
use Rattle.cast_stub.specs.Block.{code_seen}
use Rattle.hoist.specs.Bound.{bound}
use Rattle.hoist.proofs.bounding.number_bound.Given as goal

abbrev pub invariant-loop-i : goal.invariant-loop-i
invariant-loop-i l = (s : Scalar) → l.sum ≡ bound (scalar_type s) (code_seen (drop l.i l.list))
