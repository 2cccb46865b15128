use Rattle.std.proofs.Common.{refl, rules}
use Rattle.json_shape.proofs.UsualRecords.{op_first}
use Rattle.json_shape.proofs.usual_requests.op_and_args.Goals as goal

pub returns-clause-request : goal.returns-clause-request
returns-clause-request c =
    op_first c.args.bound.now _ _ _ _ _ _ _ _ _ _ _ _ c.in-Some.op c.in-Some.operation.now _ _ c.in_ok-first.ensures
    (rw c.back-back.ensures at c.in_ok-before.ensures) c.in_ok-name.ensures c.in_ok-next.ensures
    (rw c.back-back.ensures at c.in_ok-after.ensures) c.in_ok-value.ensures.value (search rules) c.in_ok-head.ensures refl refl
