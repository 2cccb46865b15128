use Rattle.std.proofs.Common.{ap}
use Rattle.aoi.specs.Plain.{PlainUnit}
use Rattle.pres.proofs.Counting.{operations_few}
use Rattle.pres_pairs.proofs.pairs.operations_are_few.Goals as goal

pub returns : goal.returns
returns c =
    operations_few c.args.bound.now c.unit.result.now.interfaces c.ops-ops.ensures.stands
    (ap (λ (u : PlainUnit). u.interfaces) c.unit.ensures) c.interfaces_are_apart.ensures.apart c.interfaces_are_apart.ensures.few
