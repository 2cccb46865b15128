use Rattle.std.proofs.Common.{◌≡◌, ◌++◌, map, drop}
use Rattle.aoi.specs.Plain.{plain_raise}
use Rattle.pres.specs.Raises.{names_in}
use Rattle.pres.proofs.raises.names_of.Given as goal

-- the names so far, and those of the exceptions that are left
abbrev pub invariant-loop-raise : goal.invariant-loop-raise
invariant-loop-raise l = names_in (map plain_raise l.raises) ≡ l.names ++ names_in (map plain_raise (drop l.raise-index l.raises))
