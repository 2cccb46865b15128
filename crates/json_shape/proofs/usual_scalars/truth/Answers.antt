use Rattle.std.proofs.Common.{rules, SFits}
use Rattle.std.specs.Int.{w128}
use Rattle.std.proofs.lemmas.Int.{to_z-of_z}
use Rattle.json_shape.proofs.UsualTexts.{one_less, truth_read}
use Rattle.json_shape.proofs.usual_scalars.truth.Goals as goal

pub returns-clause-value : goal.returns-clause-value
returns-clause-value c =
    let fits : SFits w128 c.flag.result = search rules in
    rw (to_z-of_z w128 c.flag.result fits) (truth_read _ _ _ _ c.in_ok-truth.ensures c.flag.ensures)

pub returns-clause-shorter : goal.returns-clause-shorter
returns-clause-shorter c = one_less _ _ _ c.in_ok-truth.ensures
