use Rattle.std.proofs.Common.{sym, ◌∙◌}
use Rattle.mint.proofs.Halving.{label_more}
use Rattle.mint.proofs.labels.is_above.Goals as goal

pub returns-in-Some : goal.returns-in-Some
returns-in-Some c = λ below rise. label_more _ c.in-Some.last.now _ c.in-Some.ensures.value (sym c.is_less.ensures ∙ below) rise
