use Rattle.std.proofs.Common.{◌≡◌, drop}
use Rattle.front_mig.specs.Held.{parameters_held}
use Rattle.front_mig.specs.Routines.{parameters_on}
use Rattle.front_mig.proofs.parameters.parameters_on.Given as goal

abbrev pub invariant-loop-p : goal.invariant-loop-p
invariant-loop-p l = parameters_on l.scope l.decl l.simple (parameters_held l.initial.names l.initial.ins l.initial.outs) l.list
    ≡ parameters_on l.scope l.decl l.simple (parameters_held l.names l.ins l.outs) (drop l.p-index l.list)
