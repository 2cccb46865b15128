use Rattle.std.proofs.Common.{◌≡◌, ◌++◌, map, drop}
use Rattle.corba_scopes.specs.Around.{slashed}
use Rattle.corba_scopes.proofs.ids.add_slashed.Given as goal

abbrev pub invariant-loop-c : goal.invariant-loop-c
invariant-loop-c l = l.initial.id ++ map slashed l.part ≡ l.id ++ map slashed (drop l.c-index l.part)
