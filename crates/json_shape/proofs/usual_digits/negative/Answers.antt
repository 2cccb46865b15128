use Rattle.std.proofs.Common.{◌≡◌, ◌-ℤ◌, pos, neg_ℤ, rules, SFits, ap, ◌∙◌}
use Rattle.std.specs.Int.{w128}
use Rattle.std.proofs.lemmas.Int.{to_z-of_z}
use Rattle.json_shape.proofs.UsualDigits.{below_zero, negative_digits}
use Rattle.json_shape.proofs.usual_digits.negative.Goals as goal

pub returns-in-Some : goal.returns-in-Some
returns-in-Some c =
    let fits : SFits w128 c.from.result = search rules in
    let z = pos 0 -ℤ c.from.result in
    let same : z ≡ neg_ℤ (pos c.in-Some.n) = ap (λ x. pos 0 -ℤ x) c.from.ensures ∙ below_zero c.in-Some.n in
    let within : SFits w128 z = search rules in
    rw (to_z-of_z w128 c.from.result fits, to_z-of_z w128 z within)
    (negative_digits c.args.octets.now c.in-Some.n z c.in-Some.ensures.some c.if-n-gt0.true c.if-n-le-MOST_BELOW.true same)
