use Rattle.std.proofs.Common.{List, [], ℕ, Some, subst}
use Rattle.flick_top.specs.Dispatch.{ChecksFile}
use Rattle.flick_top.specs.Task.{task_in}
use Rattle.flick_top.proofs.Front.{checked-decides}
use Rattle.flick_top.proofs.dispatch.check_file.Goals as goal

pub returns-in_ok-check_text-in-Ok-clause-checks : goal.returns-in_ok-check_text-in-Ok-clause-checks
returns-in_ok-check_text-in-Ok-clause-checks g c = λ files reported.
    checked-decides c.args.engine _ files c.args.path.now c.in-Ok.text _ c.in-Ok.ensures.content reported
    (subst (λ (text : List ℕ). ChecksFile c.args.engine (Some text) (task_in c.in_ok-check_text-in-Ok.field-0 [])) c.as_slice.ensures
    c.in_ok-check_text-in-Ok.ensures.checks)
