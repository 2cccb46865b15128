use Rattle.std.proofs.Common.{◌≡◌, map, ap, length, zero-add}
use Rattle.aoi.specs.Plain.{PlainUnit, plain_interface}
use Rattle.head_kit.specs.Calls.{IsBelow}
use Rattle.back_mach.specs.Routines.{routines}
use Rattle.back_mach.specs.Seeking.{named_from}
use Rattle.back_mach.proofs.Named.{named_below}
use Rattle.back_mach.proofs.seek.named.Goals as goal

pub returns-clause-below : goal.returns-clause-below
returns-clause-below c =
    let below : IsBelow (length (routines c.args.bound.now.unit.interfaces))
    (named_from 0 c.args.bound.now.unit.interfaces c.args.call.now.id) =
    rw zero-add at (named_below 0 c.args.bound.now.unit.interfaces c.args.call.now.id) in
    let same : map plain_interface c.unit.result.now.interfaces ≡ c.args.bound.now.unit.interfaces =
    ap (λ (u : PlainUnit). u.interfaces) c.unit.ensures in
    rw (c.seek.ensures, c.as_slice.ensures, c.interfaces.ensures, same, ← c.operations_are_routines.ensures.many) below
