use Rattle.json_shape.proofs.UsualTexts.{letters_read}
use Rattle.json_shape.proofs.usual_scalars.text.Goals as goal

pub returns-clause-numbers : goal.returns-clause-numbers
returns-clause-numbers c =
    letters_read _ _ _ _ _ _ _ c.in_ok-letters.ensures c.in_ok-octets.ensures c.as_slice.ensures c.in_ok-row.ensures
