use Rattle.std.proofs.Common.{length}
use Rattle.corba_scopes.proofs.store.Store.+within.Given as goal

abbrev pub decreases-within : goal.decreases-within
decreases-within l = length l.parts.now
