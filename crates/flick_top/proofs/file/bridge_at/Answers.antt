use Rattle.std.proofs.Common.{List, ℕ, Some, Err, ap, subst}
use Rattle.flick_top.specs.Dispatch.{IsBridgeOf}
use Rattle.flick_top.proofs.Bridging.{bridge-absent, bridge-decides}
use Rattle.flick_top.proofs.file.bridge_at.Goals as goal

pub returns-in_ok-bridge_of-in-Ok-clause-bridges : goal.returns-in_ok-bridge_of-in-Ok-clause-bridges
returns-in_ok-bridge_of-in-Ok-clause-bridges g c = λ files reported.
    let made = c.in_ok-bridge_of-in-Ok.field-0 in
    bridge-decides c.args.named.now c.args.to _ files c.args.path.now c.in-Ok.text made c.in-Ok.ensures.content reported
    (subst (λ (t : List ℕ). IsBridgeOf c.args.named.now c.args.to (Some t) made) c.as_slice.ensures c.in_ok-bridge_of-in-Ok.ensures)

pub returns-in-Err-Absent-clause-bridges : goal.returns-in-Err-Absent-clause-bridges
returns-in-Err-Absent-clause-bridges g c = λ files reported.
    bridge-absent c.args.named.now c.args.to _ files c.args.path.now
    (c.in-Err-Absent.ensures.absent (ap Err c.in-Err-Absent.field-0-is)) reported
