use Rattle.std.proofs.Common.{sym, ◌∙◌}
use Rattle.json_shape.proofs.Options.{one_some}
use Rattle.json_shape.proofs.Shown.{shown}
use Rattle.json_shape.proofs.laws.json_presents_one_value.Goals as goal

pub returns : goal.returns
returns c = λ f j v w p q. one_some v w (sym (shown f j v p.shows) ∙ shown f j w q.shows)
