use Rattle.std.proofs.Common.{◌≡◌, drop}
use Rattle.front_corba.specs.Parameters.{are_in}
use Rattle.front_corba.proofs.parameters.are_in.Given as goal

abbrev pub invariant-loop-parameter : goal.invariant-loop-parameter
invariant-loop-parameter l = are_in l.list ≡ are_in (drop l.parameter-index l.list)
