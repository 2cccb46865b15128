use Rattle.std.proofs.Common.{length}
use Rattle.corba_scopes.proofs.store.Store.+along.Given as goal

abbrev pub decreases-along : goal.decreases-along
decreases-along l = length l.places.now
