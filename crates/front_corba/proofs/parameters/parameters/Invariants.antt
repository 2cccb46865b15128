use Rattle.std.proofs.Common.{◌≡◌, map, drop}
use Rattle.aoi.specs.Shapes.{seen_field}
use Rattle.front_corba.specs.Parameters.{parameters_on}
use Rattle.front_corba.proofs.parameters.parameters.Given as goal

abbrev pub invariant-loop-p : goal.invariant-loop-p
invariant-loop-p l =
    parameters_on l.d (record { names = l.initial.scopes; ins = map seen_field l.initial.ins; outs = map seen_field l.initial.outs }) l.list
    ≡ parameters_on l.d (record { names = l.scopes; ins = map seen_field l.ins; outs = map seen_field l.outs }) (drop l.p-index l.list)
