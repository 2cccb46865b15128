use Rattle.std.proofs.Common.{sym}
use Rattle.json_shape.proofs.UsualRecords.{local_absent, local_taken}
use Rattle.json_shape.proofs.usual_heads.local_at.Goals as goal

pub returns-then-not-is_mach : goal.returns-then-not-is_mach
returns-then-not-is_mach c = local_absent _ _ (sym c.if-not-is_mach.ensures)

pub returns : goal.returns
returns c = local_taken _ _ _ _ (sym c.if-not-is_mach.ensures) c.in_ok-local.ensures
