use Rattle.corba_scopes.proofs.Scoping.{kept_seen, own_seen}
use Rattle.corba_scopes.proofs.keys.Keys.with_own.Goals as goal

pub invariant_of-result : goal.invariant_of-result
invariant_of-result c =
    kept_seen c.self.inside.owns c.in_ok-owns.owns c.self.inside.scopes.keys c.args.own.now c.in_ok-owns.own c.in_ok-owns.ensures
    c.self.invariant

pub returns : goal.returns
returns c =
    own_seen c.self.inside.owns c.in_ok-owns.owns c.self.inside.scopes.keys c.args.own.now c.in_ok-owns.own c.in_ok-owns.ensures
    c.self.invariant c.args.self c.self.view_is c.args.place c.requires.place c.requires.own
