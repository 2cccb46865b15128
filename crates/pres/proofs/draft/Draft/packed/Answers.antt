use Rattle.std.proofs.Common.{◌∙◌}
use Rattle.pres.proofs.Drawn.{packed_by}
use Rattle.pres.proofs.draft.Draft.packed.Goals as goal

pub returns-in-Some : goal.returns-in-Some
returns-in-Some c = c.unless_bool.ensures ∙ packed_by _ c.in-Some.kind c.in-Some.ensures
