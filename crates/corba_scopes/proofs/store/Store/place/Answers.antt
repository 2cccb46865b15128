use Rattle.corba_scopes.proofs.Storing.{place_seen}
use Rattle.corba_scopes.proofs.store.Store.place.Goals as goal

pub returns-in-Some-clause-place : goal.returns-in-Some-clause-place
returns-in-Some-clause-place c =
    (place_seen c.self.inside.keys c.self.inside.table c.self.inside.folded c.self.inside.lines c.self.inside.env.items
    c.args.self.now c.self.invariant c.self.view_is c.deref.result.now c.in-Some.around.now c.deref.ensures.value c.in-Some.ensures.value).0

pub returns-in-Some-clause-scope : goal.returns-in-Some-clause-scope
returns-in-Some-clause-scope c =
    (place_seen c.self.inside.keys c.self.inside.table c.self.inside.folded c.self.inside.lines c.self.inside.env.items
    c.args.self.now c.self.invariant c.self.view_is c.deref.result.now c.in-Some.around.now c.deref.ensures.value c.in-Some.ensures.value).1
