use Rattle.std.proofs.Common.{◌+◌, length}
use Rattle.corba_scopes.proofs.keys.Keys.+key_in.Given as goal

abbrev pub decreases-key : goal.decreases-key
decreases-key l = length l.name.now + length l.name.now + 1

abbrev pub decreases-scope_in : goal.decreases-scope_in
decreases-scope_in l = length l.front.now + length l.front.now
