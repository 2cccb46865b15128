use Rattle.std.proofs.Common.{sym}
use Rattle.pres.proofs.Passing.{whole_text, other_text}
use Rattle.pres.proofs.texts.is_rest_of.Goals as goal

pub returns-in-None-next : goal.returns-in-None-next
returns-in-None-next c = sym (whole_text c.args.octets.now _ _ c.in-Some.ensures.some.1 c.in-None-next.ensures.steps.0.0)

pub returns-in-None : goal.returns-in-None
returns-in-None c = sym (other_text c.args.octets.now _ c.in-None.ensures.none)
