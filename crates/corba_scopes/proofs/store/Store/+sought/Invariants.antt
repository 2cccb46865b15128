use Rattle.std.proofs.Common.{length}
use Rattle.corba_scopes.proofs.store.Store.+sought.Given as goal

abbrev pub decreases-sought : goal.decreases-sought
decreases-sought l = length l.env.now
