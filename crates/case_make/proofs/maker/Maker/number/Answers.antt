use Rattle.std.proofs.Common.{◌<◌, ap, ◌∙◌, arith, rules, FitsSigned}
use Rattle.std.specs.Int.{w128}
use Rattle.std.proofs.lemmas.Int.{to_z-of_z}
use Rattle.mint.specs.Kinds.{in_range}
use Rattle.case_make.specs.Draws.{span}
use Rattle.case_make.proofs.Drawing.{number_in}
use Rattle.case_make.proofs.maker.Maker.number.Goals as goal

pub returns-clause-ranged : goal.returns-clause-ranged
returns-clause-ranged c =
    let less : c.draw.result < span c.args.kind = omega (arith, c.draw.ensures.less, c.span.ensures.value) in
    let fits : FitsSigned w128 c.shifted.result = search rules in
    ap (in_range c.args.kind) (to_z-of_z w128 _ fits ∙ c.shifted.ensures) ∙ number_in c.args.kind c.draw.result less
