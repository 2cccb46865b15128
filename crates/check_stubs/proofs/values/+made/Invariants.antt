use Rattle.std.proofs.Common.{◌+◌, ◌*◌}
use Rattle.check_stubs.proofs.values.+made.Given as goal

abbrev pub decreases-all : goal.decreases-all
decreases-all l = 2 * l.levels + 1

abbrev pub decreases-maybe : goal.decreases-maybe
decreases-maybe l = 2 * l.levels + 1

abbrev pub decreases-made : goal.decreases-made
decreases-made l = 2 * l.levels
