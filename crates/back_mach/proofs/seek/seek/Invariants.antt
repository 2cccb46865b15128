use Rattle.std.proofs.Common.{◌≡◌, ◌+◌, length, map, drop}
use Rattle.aoi.specs.Plain.{plain_interface}
use Rattle.back_mach.specs.Routines.{routines}
use Rattle.back_mach.specs.Seeking.{named_from}
use Rattle.back_mach.proofs.seek.seek.Given as goal

-- what is named among all interfaces is named among those that are left
abbrev pub invariant-loop-i : goal.invariant-loop-i
invariant-loop-i l = record {
  all : l.first + length (routines (map plain_interface (drop l.i-index l.interfaces)))
      ≡ l.fn.first + length (routines (map plain_interface l.interfaces));
  left : named_from l.fn.first (map plain_interface l.interfaces) l.id
      ≡ named_from l.first (map plain_interface (drop l.i-index l.interfaces)) l.id;
}
