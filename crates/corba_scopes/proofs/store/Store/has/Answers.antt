use Rattle.std.proofs.Common.{◌∙◌, ap, is_some}
use Rattle.corba_scopes.proofs.Storing.{has_seen, has_none}
use Rattle.corba_scopes.proofs.store.Store.has.Goals as goal

pub returns-in-Some : goal.returns-in-Some
returns-in-Some c =
    c.is_some.ensures ∙ ap is_some c.at.ensures
    ∙ has_seen c.self.inside.keys c.self.inside.table c.self.inside.folded c.self.inside.lines c.self.inside.env.items
    c.args.self.now c.self.invariant c.self.view_is c.args.place c.args.name.now c.in-Some.key c.in-Some.ensures

pub returns-in-None : goal.returns-in-None
returns-in-None c =
    has_none c.self.inside.keys c.self.inside.table c.self.inside.folded c.self.inside.lines c.self.inside.env.items
    c.args.self.now c.self.invariant c.self.view_is c.args.place c.args.name.now c.in-None.ensures
