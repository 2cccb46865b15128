use Rattle.std.proofs.Common.{subst, ◌∙◌}
use Rattle.flick_bridge.specs.Bridged.{IsBridging}
use Rattle.flick_bridge.proofs.bridge.Bridge.ends.Goals as goal

pub new-requires : goal.new-requires
new-requires c = c.self.invariant

pub returns-clause-value : goal.returns-clause-value
returns-clause-value c = c.new.ensures ∙ c.self.view_is

pub returns-clause-stands : goal.returns-clause-stands
returns-clause-stands c = subst IsBridging c.self.view_is c.self.invariant
