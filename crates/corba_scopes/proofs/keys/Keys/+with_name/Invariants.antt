use Rattle.std.proofs.Common.{◌+◌, length}
use Rattle.corba_scopes.proofs.keys.Keys.+with_name.Given as goal

abbrev pub decreases-with : goal.decreases-with
decreases-with l = length l.name.now + length l.name.now + 1

abbrev pub decreases-with_scope_in : goal.decreases-with_scope_in
decreases-with_scope_in l = length l.front.now + length l.front.now
