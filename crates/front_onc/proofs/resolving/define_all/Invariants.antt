use Rattle.std.proofs.Common.{◌≡◌, drop}
use Rattle.front_onc.specs.Held.{state}
use Rattle.front_onc.specs.Resolved.{defined_on}
use Rattle.front_onc.proofs.resolving.define_all.Given as goal

abbrev pub invariant-loop-def : goal.invariant-loop-def
invariant-loop-def l = defined_on (state l.initial.r) l.list ≡ defined_on (state l.r) (drop l.def-index l.list)
