use Rattle.std.proofs.Common.{◌≡◌, drop, map}
use Rattle.std.specs.List.{position_from}
use Rattle.std.specs.Str.{bytes_eq}
use Rattle.aoi.specs.Plain.{plain_interface}
use Rattle.pres.specs.declared.ops.Op.{Op}
use Rattle.json_shape.specs.Operations.{dotted}
use Rattle.flick_check.specs.Checked.{place_of}
use Rattle.flick_check.proofs.names.place_of.Given as goal

-- What is sought is sought in the rest.
abbrev pub invariant-loop-i : goal.invariant-loop-i
invariant-loop-i l = place_of (map plain_interface l.interfaces) l.name l.ops
    ≡ position_from (λ (o : Op). bytes_eq (dotted (map plain_interface l.interfaces) o) l.name) l.i (drop l.i l.ops)
