use Rattle.std.proofs.Common.{◌∷◌, []}
use Rattle.flick_check.proofs.Stripped.{stripped, unstripped}
use Rattle.flick_check.proofs.names.is_dotted.Goals as goal

pub returns-in-Some : goal.returns-in-Some
returns-in-Some c =
    stripped (46 ∷ []) c.args.name.now c.args.octets.now c.in-Some.rest.now c.eq.result c.in-Some.ensures.cases.0
    c.in-Some.ensures.cases.1 c.eq.ensures

pub returns-in-None : goal.returns-in-None
returns-in-None c = unstripped (46 ∷ []) c.args.name.now c.args.octets.now c.in-None.ensures.cases
