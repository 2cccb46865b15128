use Rattle.std.proofs.Common.{map, take}
use Rattle.aoi.specs.Plain.{plain_interface}
use Rattle.pres.specs.Raises.{FindMore, sources}
use Rattle.pres.proofs.raises.put_interfaces.Given as goal

-- the exceptions of the operations of the interfaces so far are found
abbrev pub invariant-loop-interface : goal.invariant-loop-interface
invariant-loop-interface l =
    FindMore (sources l.back (map plain_interface (take l.interface-index l.interfaces))) l.fn.tables.items l.tables.items
