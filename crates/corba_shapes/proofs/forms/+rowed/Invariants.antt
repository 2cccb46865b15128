use Rattle.std.proofs.Common.{length}
use Rattle.corba_shapes.proofs.forms.+rowed.Given as goal

abbrev pub decreases-rowed : goal.decreases-rowed
decreases-rowed l = length l.rows.now
