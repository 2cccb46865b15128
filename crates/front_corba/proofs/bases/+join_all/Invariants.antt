use Rattle.std.proofs.Common.{length}
use Rattle.front_corba.proofs.bases.+join_all.Given as goal

abbrev pub decreases-join_all : goal.decreases-join_all
decreases-join_all l = length l.base.now
