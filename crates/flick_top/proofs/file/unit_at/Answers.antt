use Rattle.std.proofs.Common.{List, ℕ, Some, subst}
use Rattle.flick_top.specs.File.{FileSays, plainly}
use Rattle.flick_top.proofs.Front.{reported-decides}
use Rattle.flick_top.proofs.file.unit_at.Goals as goal

pub returns-in-Ok-read_content-clause-reported : goal.returns-in-Ok-read_content-clause-reported
returns-in-Ok-read_content-clause-reported g c = λ files reported.
    reported-decides c.args.front _ files c.args.path.now c.in-Ok.text _ c.in-Ok.ensures.content reported
    (subst (λ (t : List ℕ). FileSays c.args.front (Some t) (plainly c.in-Ok-read_content.read)) c.as_slice.ensures
    c.in-Ok-read_content.ensures.says)
