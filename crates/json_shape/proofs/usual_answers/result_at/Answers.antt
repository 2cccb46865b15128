use Rattle.std.proofs.Common.{refl}
use Rattle.json_shape.proofs.UsualReplies.{result_absent, result_there}
use Rattle.json_shape.proofs.UsualTexts.{same_first}
use Rattle.json_shape.proofs.usual_answers.result_at.Goals as goal

pub returns-then-not-is_key : goal.returns-then-not-is_key
returns-then-not-is_key c = result_absent _ _ _ _ c.in_ok-none.ensures

pub returns : goal.returns
returns c =
    result_there _ _ _ _ _ _ _ (same_first _ _ _ (c.if-not-is_key.ensures refl)) c.in_ok-value.ensures c.in_ok-past.ensures
