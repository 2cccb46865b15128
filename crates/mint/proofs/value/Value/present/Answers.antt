use Rattle.std.proofs.Common.{◌∙◌, ap}
use Rattle.mint.specs.Values.{present, seen}
use Rattle.mint.proofs.Seen.{seen-Some}
use Rattle.mint.proofs.value.Value.present.Goals as goal

pub returns : goal.returns
returns c = seen-Some c.in_ok-new.field-0 ∙ ap (λ v. present (seen v)) c.in_ok-new.ensures.ok
