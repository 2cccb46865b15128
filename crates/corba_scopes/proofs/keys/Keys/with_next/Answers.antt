use Rattle.corba_scopes.proofs.Scoping.{next_seen, put_seen}
use Rattle.corba_scopes.proofs.keys.Keys.with_next.Goals as goal

pub invariant_of-result : goal.invariant_of-result
invariant_of-result c =
    next_seen c.self.inside.owns c.self.inside.scopes.keys c.insert.new.self.keys c.args.key c.args.self c.in_ok-insert.ensures.keys
    c.self.invariant c.self.view_is c.requires.key c.requires.none

pub returns : goal.returns
returns c =
    put_seen c.self.inside.owns c.self.inside.scopes.keys c.insert.new.self.keys c.args.key c.args.self c.in_ok-insert.ensures.keys
    c.self.invariant c.self.view_is c.requires.key c.requires.none c.len-place.result c.len-place.ensures.len
