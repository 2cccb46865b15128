use Rattle.std.proofs.Common.{◌≡◌, drop}
use Rattle.front_corba.specs.Held.{held}
use Rattle.front_corba.specs.Resolved.{definitions_on}
use Rattle.front_corba.proofs.resolving.+definitions.Given as goal

abbrev pub invariant-define_all-loop-def : goal.invariant-define_all-loop-def
invariant-define_all-loop-def l = definitions_on l.list (held l.initial.r) ≡ definitions_on (drop l.def-index l.list) (held l.r)
