use Rattle.json_shape.proofs.UsualTexts.{digits_read}
use Rattle.json_shape.proofs.usual_scalars.octets.Goals as goal

pub returns-clause-numbers : goal.returns-clause-numbers
returns-clause-numbers c =
    digits_read _ _ _ _ _ _ _ _ c.in_ok-digits.ensures c.as_bytes.ensures.value c.in_ok-octets.ensures.ok c.as_slice.ensures.value
    c.in_ok-row.ensures
