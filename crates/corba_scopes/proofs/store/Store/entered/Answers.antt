use Rattle.corba_scopes.proofs.Storing.{inside_held, inside_names}
use Rattle.corba_scopes.proofs.store.Store.entered.Goals as goal

pub invariant_of-result : goal.invariant_of-result
invariant_of-result c =
    inside_held c.self.inside.keys c.self.inside.table c.self.inside.folded c.self.inside.lines c.self.inside.env.items
    c.args.self c.self.invariant c.self.view_is c.in-Ok.keys c.args.name.now c.in_ok-scope.scope c.place-place.result c.in-Ok.place
    c.put_around.new.env.items c.in-Ok.ensures c.place-place.ensures.scope c.in_ok-scope.ensures c.in-Ok-put_around.ensures

pub returns-in-Ok-put_around : goal.returns-in-Ok-put_around
returns-in-Ok-put_around c =
    inside_names c.self.inside.keys c.self.inside.table c.self.inside.folded c.self.inside.lines c.self.inside.env.items
    c.args.self c.self.invariant c.self.view_is c.in-Ok.keys c.args.name.now c.in_ok-scope.scope c.place-place.result c.in-Ok.place
    c.put_around.new.env.items c.in-Ok.ensures c.place-place.ensures.scope c.in_ok-scope.ensures c.in-Ok-put_around.ensures
