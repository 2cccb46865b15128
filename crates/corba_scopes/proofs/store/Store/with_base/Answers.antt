use Rattle.std.proofs.Common.{sym, subst}
use Rattle.corba_scopes.specs.Parted.{IsKey}
use Rattle.corba_scopes.specs.Stored.{Stored}
use Rattle.corba_scopes.proofs.Storing.{base_held, base_names}
use Rattle.corba_scopes.proofs.store.Store.with_base.Goals as goal

pub invariant_of-result : goal.invariant_of-result
invariant_of-result c =
    base_held c.self.inside.keys c.self.inside.table c.self.inside.folded c.self.inside.lines c.self.inside.env.items
    c.args.self c.self.invariant c.self.view_is c.in-Ok.keys c.args.name.now c.place-place.result c.in-Ok.place c.in-Ok.base c.args.base
    c.add_base.new.self c.in-Ok.ensures c.place-place.ensures.scope c.in-Ok-add_base.ensures

pub returns-in-Ok-add_base : goal.returns-in-Ok-add_base
returns-in-Ok-add_base c =
    base_names c.self.inside.keys c.self.inside.table c.self.inside.folded c.self.inside.lines c.self.inside.env.items
    c.args.self c.self.invariant c.self.view_is c.in-Ok.keys c.args.name.now c.place-place.result c.in-Ok.place c.in-Ok.base c.args.base
    c.add_base.new.self c.in-Ok.ensures c.place-place.ensures.scope c.in-Ok-add_base.ensures

pub with_scopes-requires-clause-other : goal.with_scopes-requires-clause-other
with_scopes-requires-clause-other c = subst (λ (s : Stored). IsKey s.parts c.args.base) (sym c.self.view_is) c.requires
