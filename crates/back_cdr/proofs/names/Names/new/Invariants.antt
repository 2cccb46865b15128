use Rattle.std.proofs.Common.{◌≡◌, ◌++◌, map, drop}
use Rattle.aoi.specs.Plain.{plain_interface}
use Rattle.back_cdr.specs.Offered.{keys_of, offered_from, raised_each}
use Rattle.back_cdr.proofs.names.Names.new.Given as goal

-- the names so far, and those of the interfaces that are left
abbrev pub invariant-loop-i : goal.invariant-loop-i
invariant-loop-i l = record {
  keys : keys_of (map plain_interface l.interfaces) ≡ l.words ++ keys_of (map plain_interface (drop l.i-index l.interfaces));
  offered : offered_from 0 (map plain_interface l.interfaces)
      ≡ l.offered ++ offered_from l.first (map plain_interface (drop l.i-index l.interfaces));
  raised : raised_each (map plain_interface l.interfaces) ≡ l.raised ++ raised_each (map plain_interface (drop l.i-index l.interfaces));
}
