use Rattle.std.proofs.Common.{rules, SFits}
use Rattle.std.specs.Int.{w128}
use Rattle.std.proofs.lemmas.Int.{to_z-of_z}
use Rattle.json_shape.proofs.UsualTexts.{item_read}
use Rattle.json_shape.proofs.usual_scalars.item.Goals as goal

pub returns : goal.returns
returns c =
    let fits : SFits w128 c.in_ok-n.n = search rules in
    rw (to_z-of_z w128 c.in_ok-n.n fits) (item_read _ _ _ _ _ c.in_ok-name.ensures c.in_ok-n.ensures)
