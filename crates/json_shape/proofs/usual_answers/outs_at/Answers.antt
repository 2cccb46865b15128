use Rattle.std.proofs.Common.{refl, arith}
use Rattle.json_shape.proofs.UsualReplies.{outs_alone, outs_there}
use Rattle.json_shape.proofs.UsualTexts.{same_first}
use Rattle.json_shape.proofs.usual_answers.outs_at.Goals as goal

pub returns-then-not-is_key : goal.returns-then-not-is_key
returns-then-not-is_key c = outs_alone _ _ _ _ _ _ c.in_ok-alone.ensures.none c.in_ok-alone.ensures.values

pub returns : goal.returns
returns c =
    outs_there _ _ _ _ _ _ _ _ _ (omega arith) (same_first _ _ _ (c.if-not-is_key.ensures refl)) c.in_ok-begin_items.ensures
    c.in_ok-values.ensures c.in_ok-past.ensures
