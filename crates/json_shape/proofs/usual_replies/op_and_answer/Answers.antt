use Rattle.std.proofs.Common.{refl, rules}
use Rattle.json_shape.proofs.UsualReplies.{record_taken}
use Rattle.json_shape.proofs.usual_replies.op_and_answer.Goals as goal

pub returns-clause-reply : goal.returns-clause-reply
returns-clause-reply c =
    record_taken c.args.bound.now _ _ _ _ _ _ _ _ _ _ _ c.in-Some.op c.in-Some.operation.now _ c.in_ok-first.ensures
    (rw (c.head_key-head_name.ensures, c.back.ensures) at c.in_ok-before.ensures) c.in_ok-name.ensures c.in_ok-next.ensures
    (rw (c.head_key-head_name.ensures, c.back.ensures) at c.in_ok-after.ensures) (search rules) (search rules) c.in_ok-last.ensures.value _
    c.in_ok-last.ensures.is c.in_ok-last.ensures.typed refl (search rules)
