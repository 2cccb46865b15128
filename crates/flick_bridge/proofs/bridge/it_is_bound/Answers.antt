use Rattle.std.proofs.Common.{subst}
use Rattle.pres.specs.Bindings.{IsBinding}
use Rattle.flick_bridge.proofs.bridge.it_is_bound.Goals as goal

pub returns : goal.returns
returns c = subst IsBinding c.bound.ensures.value c.ops-ops.ensures.stands
