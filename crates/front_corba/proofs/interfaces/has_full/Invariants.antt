use Rattle.std.proofs.Common.{◌≡◌, map, drop}
use Rattle.idl_names.specs.Names.{has}
use Rattle.front_corba.specs.Held.{plain_offering}
use Rattle.front_corba.specs.Interfaces.{full_names}
use Rattle.front_corba.proofs.interfaces.has_full.Given as goal

abbrev pub invariant-loop-i : goal.invariant-loop-i
invariant-loop-i l = has l.full (full_names (map plain_offering l.interfaces))
    ≡ has l.full (full_names (map plain_offering (drop l.i-index l.interfaces)))
