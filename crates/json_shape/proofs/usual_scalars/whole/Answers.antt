use Rattle.std.proofs.Common.{rules, SFits}
use Rattle.std.specs.Int.{w128}
use Rattle.std.proofs.lemmas.Int.{to_z-of_z}
use Rattle.json_shape.proofs.UsualTexts.{one_less, whole_read}
use Rattle.json_shape.proofs.usual_scalars.whole.Goals as goal

pub returns-clause-value : goal.returns-clause-value
returns-clause-value c =
    let fits : SFits w128 c.in-Some.n = search rules in
    let same = to_z-of_z w128 c.in-Some.n fits in
    let fit : SFits w128 c.in_ok-n.n = search rules in
    rw (to_z-of_z w128 c.in_ok-n.n fit)
    (whole_read _ _ _ c.in_ok-n.n _ _ c.in_ok-digits.ensures c.in-Some.ensures (rw same at c.in_ok-n.ensures.same)
    (rw same at c.in_ok-n.ensures.ranged))

pub returns-clause-shorter : goal.returns-clause-shorter
returns-clause-shorter c = one_less _ _ _ c.in_ok-digits.ensures
