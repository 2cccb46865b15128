use Rattle.std.proofs.Common.{◌+◌, ◌*◌}
use Rattle.corba_decls.proofs.types.+sharing.Given as goal

abbrev pub decreases-sharing : goal.decreases-sharing
decreases-sharing l = 2 * l.below + 1

abbrev pub decreases-shared : goal.decreases-shared
decreases-shared l = 2 * l.levels
