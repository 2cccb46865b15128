use Rattle.std.proofs.Common.{refl}
use Rattle.cast_stub.specs.Subs.{deepest}
use Rattle.cast_stub.proofs.send.deepest_call.Goals as goal

pub returns : goal.returns
unfolding deepest
returns c = refl
