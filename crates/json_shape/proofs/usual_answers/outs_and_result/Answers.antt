use Rattle.std.proofs.Common.{refl}
use Rattle.json_shape.proofs.UsualReplies.{outs_first}
use Rattle.json_shape.proofs.UsualTexts.{same_first}
use Rattle.json_shape.proofs.usual_answers.outs_and_result.Goals as goal

pub returns : goal.returns
returns c =
    rw c.or.ensures
    (outs_first _ _ _ _ _ _ _ _ _ _ _ _ _ _ _ c.in_ok-values.ensures
    (rw (c.head_key-key.ensures, c.back.ensures) at c.in_ok-before.ensures) c.in_ok-given.ensures
    (rw (c.head_key-key.ensures, c.back.ensures) at c.in_ok-after.ensures)
    (same_first _ _ _ (c.if-not-is_end.ensures refl)) c.exchange.ensures.items)
