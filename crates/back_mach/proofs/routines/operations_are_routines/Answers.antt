use Rattle.std.proofs.Common.{ap, arith}
use Rattle.aoi.specs.Plain.{PlainUnit}
use Rattle.pres.proofs.Counting.{operations_few}
use Rattle.back_mach.proofs.Counting.{counted, ids_small}
use Rattle.back_mach.proofs.routines.operations_are_routines.Goals as goal

pub returns-clause-many : goal.returns-clause-many
returns-clause-many c = counted c.args.bound.now c.ops-ops.ensures.stands c.requires.mach

pub returns-clause-few : goal.returns-clause-few
returns-clause-few c =
    operations_few c.args.bound.now c.unit.result.now.interfaces c.ops-ops.ensures.stands
    (ap (λ (u : PlainUnit). u.interfaces) c.unit.ensures) c.interfaces_are_apart.ensures.apart c.interfaces_are_apart.ensures.few

pub returns-clause-ids : goal.returns-clause-ids
returns-clause-ids c op below =
    let all = counted c.args.bound.now c.ops-ops.ensures.stands c.requires.mach in
    ids_small c.args.bound.now.unit op c.ops-ops.ensures.stands.sound (omega (arith, all, below))
