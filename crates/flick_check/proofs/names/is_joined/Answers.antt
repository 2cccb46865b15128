use Rattle.std.proofs.Common.{◌∷◌}
use Rattle.flick_check.proofs.Stripped.{stripped, unstripped}
use Rattle.flick_check.proofs.names.is_joined.Goals as goal

pub returns-in-Some : goal.returns-in-Some
returns-in-Some c =
    stripped c.args.first.now (46 ∷ c.args.last.now) c.args.name.now c.in-Some.rest.now c.is_dotted.result c.in-Some.ensures.cases.0
    c.in-Some.ensures.cases.1 c.is_dotted.ensures

pub returns-in-None : goal.returns-in-None
returns-in-None c = unstripped c.args.first.now (46 ∷ c.args.last.now) c.args.name.now c.in-None.ensures.cases
