use Rattle.std.proofs.Common.{ap}
use Rattle.aoi.specs.Plain.{PlainUnit}
use Rattle.pres.proofs.Counting.{operations_few}
use Rattle.back_xdr.proofs.Counting.{counted}
use Rattle.back_xdr.proofs.procedures.operations_are_procedures.Goals as goal

pub returns-clause-many : goal.returns-clause-many
returns-clause-many c = counted c.args.bound.now c.ops-ops.ensures.stands c.requires.xdr

pub returns-clause-few : goal.returns-clause-few
returns-clause-few c =
    operations_few c.args.bound.now c.unit.result.now.interfaces c.ops-ops.ensures.stands
    (ap (λ (u : PlainUnit). u.interfaces) c.unit.ensures) c.interfaces_are_apart.ensures.apart c.interfaces_are_apart.ensures.few
