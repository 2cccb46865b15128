use Rattle.std.proofs.Common.{refl, rules}
use Rattle.json_shape.proofs.UsualRecords.{args_first}
use Rattle.json_shape.proofs.UsualTexts.{same_first}
use Rattle.json_shape.proofs.usual_requests.args_and_op.Goals as goal

pub returns-clause-request : goal.returns-clause-request
returns-clause-request c =
    args_first c.args.bound.now _ _ _ _ _ _ _ _ _ _ _ _ _ _ c.in-Some.op c.in-Some.operation.now _ _ c.in_ok-after_key.ensures
    c.in_ok-value.ensures.value c.in_ok-first.ensures (rw c.back-back.ensures at c.in_ok-before.ensures) c.in_ok-name_at.ensures
    c.in_ok-next.ensures (rw c.back-back.ensures at c.in_ok-after.ensures) (same_first _ _ _ (c.if-not-is_end.ensures refl))
    (search rules) c.in_ok-head.ensures refl refl
