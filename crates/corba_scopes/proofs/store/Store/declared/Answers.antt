use Rattle.std.proofs.Common.{◌∙◌}
use Rattle.corba_scopes.proofs.Storing.{declared_held, declared_names}
use Rattle.corba_scopes.proofs.store.Store.declared.Goals as goal

pub invariant_of-result : goal.invariant_of-result
invariant_of-result c =
    declared_held c.self.inside.keys c.self.inside.table c.self.inside.folded c.self.inside.lines c.self.inside.env.items
    c.args.self c.self.invariant c.self.view_is c.in-Ok.keys c.args.name.now c.as_slice.result.now c.place-place.result c.in-Ok.key
    c.in-Ok.below c.args.meaning c.put_both.new.table c.put_both.new.folded c.in-Ok.ensures c.place-place.ensures.scope
    (c.as_slice.ensures.value ∙ c.in_ok-small.ensures) c.in-Ok-put_both.ensures.table c.in-Ok-put_both.ensures.folded

pub returns-in-Ok-put_both : goal.returns-in-Ok-put_both
returns-in-Ok-put_both c =
    declared_names c.self.inside.keys c.self.inside.table c.self.inside.folded c.self.inside.lines c.self.inside.env.items
    c.args.self c.self.invariant c.self.view_is c.in-Ok.keys c.args.name.now c.as_slice.result.now c.place-place.result c.in-Ok.key
    c.in-Ok.below c.args.meaning c.put_both.new.table c.put_both.new.folded c.in-Ok.ensures c.place-place.ensures.scope
    (c.as_slice.ensures.value ∙ c.in_ok-small.ensures) c.in-Ok-put_both.ensures.table c.in-Ok-put_both.ensures.folded c.requires
