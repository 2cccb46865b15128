use Rattle.std.proofs.Common.{refl}
use Rattle.json_shape.proofs.UsualRecords.{word_absent, word_taken}
use Rattle.json_shape.proofs.UsualTexts.{same_first}
use Rattle.json_shape.proofs.usual_heads.word_at.Goals as goal

pub returns-then-not-is_key : goal.returns-then-not-is_key
returns-then-not-is_key c = word_absent _ _

pub returns : goal.returns
returns c = word_taken _ _ _ _ _ _ (same_first _ _ _ (c.if-not-is_key.ensures refl)) c.in_ok-word.ensures c.in_ok-past.ensures
