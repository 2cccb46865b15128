use Rattle.json_shape.proofs.UsualDigits.{negative_number, positive_number}
use Rattle.json_shape.proofs.usual_digits.integer.Goals as goal

pub returns-then-has_minus : goal.returns-then-has_minus
returns-then-has_minus c =
    negative_number _ _ _ _ c.as_bytes-octets.ensures.value c.after_minus.ensures c.if-has_minus.ensures.value c.negative.ensures

pub returns-else-has_minus : goal.returns-else-has_minus
returns-else-has_minus c = positive_number _ _ _ c.as_bytes-octets.ensures.value c.if-has_minus.ensures.value c.positive.ensures
