use Rattle.std.proofs.Common.{map, sym, ap, subst, ◌∙◌}
use Rattle.corba_scopes.specs.Finding.{first_in}
use Rattle.corba_scopes.specs.Parted.{ArePlaces, scope_of}
use Rattle.corba_scopes.proofs.Storing.{line_seen, no_line_seen, first_alone}
use Rattle.corba_scopes.proofs.store.Store.found.Goals as goal

pub along-requires : goal.along-requires
along-requires c =
    subst (ArePlaces c.args.self.now.parts) (sym c.as_slice.ensures)
    (line_seen c.self.inside.keys c.self.inside.table c.self.inside.folded c.self.inside.lines c.self.inside.env.items
    c.args.self.now c.self.invariant c.self.view_is c.args.place c.in-Some.line.now c.requires c.in-Some.ensures).0

pub returns-in-Some-clause-entry : goal.returns-in-Some-clause-entry
returns-in-Some-clause-entry c =
    c.along.ensures.entry
    ∙ ap (λ z. first_in c.args.self.now.names c.args.name.now (map (scope_of c.args.self.now.parts) z)) c.as_slice.ensures
    ∙ ap (first_in c.args.self.now.names c.args.name.now)
    (line_seen c.self.inside.keys c.self.inside.table c.self.inside.folded c.self.inside.lines c.self.inside.env.items
    c.args.self.now c.self.invariant c.self.view_is c.args.place c.in-Some.line.now c.requires c.in-Some.ensures).1

pub returns-in-None-clause-entry : goal.returns-in-None-clause-entry
returns-in-None-clause-entry c =
    c.at.ensures.entry
    ∙ first_alone c.args.self.now.names c.args.name.now (scope_of c.args.self.now.parts c.args.place) _
    (no_line_seen c.self.inside.keys c.self.inside.table c.self.inside.folded c.self.inside.lines c.self.inside.env.items
    c.args.self.now c.self.invariant c.self.view_is c.args.place c.requires c.in-None.ensures)
