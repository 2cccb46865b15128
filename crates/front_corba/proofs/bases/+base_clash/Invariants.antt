use Rattle.std.proofs.Common.{length}
use Rattle.front_corba.proofs.bases.+base_clash.Given as goal

abbrev pub decreases-base_clash : goal.decreases-base_clash
decreases-base_clash l = length l.base.now
