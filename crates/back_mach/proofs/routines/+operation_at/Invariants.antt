use Rattle.std.proofs.Common.{length}
use Rattle.back_mach.proofs.routines.+operation_at.Given as goal

abbrev pub decreases-operation_at : goal.decreases-operation_at
decreases-operation_at l = length l.interfaces.now
