use Rattle.std.proofs.Common.{refl, arith}
use Rattle.cast_stub.specs.Subs.{deepest}
use Rattle.copy_inline.proofs.inlining.levels.Goals as goal

pub returns : goal.returns
unfolding deepest
returns c = record { is = refl; few = omega arith }
