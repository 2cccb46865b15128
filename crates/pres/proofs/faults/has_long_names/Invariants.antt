use Rattle.std.proofs.Common.{◌≡◌, drop, map}
use Rattle.std.specs.List.{list_any}
use Rattle.aoi.specs.Plain.{plain_interface}
use Rattle.pres.specs.Faults.{has_long_in}
use Rattle.pres.proofs.faults.has_long_names.Given as goal

-- none so far
abbrev pub invariant-loop-i : goal.invariant-loop-i
invariant-loop-i l = list_any (has_long_in) (map plain_interface l.interfaces)
    ≡ list_any (has_long_in) (map plain_interface (drop l.i-index l.interfaces))
