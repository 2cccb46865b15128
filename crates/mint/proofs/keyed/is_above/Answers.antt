use Rattle.std.proofs.Common.{sym, ◌∙◌}
use Rattle.mint.proofs.Halving.{entry_more}
use Rattle.mint.proofs.keyed.is_above.Goals as goal

pub returns-in-Some : goal.returns-in-Some
returns-in-Some g c = λ below rise. entry_more _ c.in-Some.entry.now _ c.in-Some.ensures.value (sym c.is_below.ensures ∙ below) rise
