use Rattle.std.proofs.Common.{◌<◌, length, rules, SFits, arith}
use Rattle.std.proofs.lemmas.Grind.{common_steps}
use Rattle.std.specs.Int.{w128}
use Rattle.std.proofs.lemmas.Int.{to_z-of_z}
use Rattle.json_shape.proofs.UsualDigits.{positive_digits}
use Rattle.json_shape.proofs.usual_digits.positive.Goals as goal

pub returns-in-Some : goal.returns-in-Some
returns-in-Some c =
    let fits : SFits w128 c.from.result = search rules in
    let some : 0 < length c.args.octets.now = grind (arith, common_steps) in
    rw (to_z-of_z w128 c.from.result fits)
    (positive_digits c.args.octets.now c.in-Some.n c.from.result some c.in-Some.ensures.some (omega arith) c.from.ensures)
