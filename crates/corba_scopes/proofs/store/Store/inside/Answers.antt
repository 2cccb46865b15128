use Rattle.std.proofs.Common.{rules, ◌≡◌, None, sym, ap, subst, ◌∙◌}
use Rattle.std.specs.Prelude.{option_map}
use Rattle.corba_scopes.specs.Around.{prefix_of}
use Rattle.corba_scopes.specs.Finding.{found}
use Rattle.corba_scopes.specs.Parted.{full_of, scope_of, IsKey, IsPlace}
use Rattle.corba_scopes.specs.Stored.{Stored, entry_of}
use Rattle.corba_scopes.proofs.Parting.{scope_is, is_place}
use Rattle.corba_scopes.proofs.Storing.{not_found}
use Rattle.corba_scopes.proofs.store.Store.inside.Goals as goal

pub scope_after-requires : goal.scope_after-requires
scope_after-requires c = subst (λ (s : Stored). IsKey s.parts c.args.outer.key) (sym c.self.view_is) c.requires

pub returns-in_err-place-clause-entry : goal.returns-in_err-place-clause-entry
returns-in_err-place-clause-entry c =
    let none : c.from_residual.result ≡ None = search rules in
    let absent : c.scope_after.result ≡ None = search rules in
    let scope = prefix_of (full_of c.self.inside.keys c.args.outer.key) in
    ap (option_map (entry_of c.args.self.now.parts)) none
    ∙ not_found c.self.inside.keys c.self.inside.table c.self.inside.folded c.self.inside.lines c.self.inside.env.items
    c.args.self.now c.self.invariant c.self.view_is scope c.args.name.now (sym absent ∙ c.scope_after.ensures.value)
    (c.scope_after.ensures.none absent c.args.name.now)
    ∙ ap (λ (s : Stored). found c.args.self.now.names (prefix_of (full_of s.parts c.args.outer.key)) c.args.name.now) c.self.view_is

pub found-requires : goal.found-requires
found-requires c =
    subst (λ (s : Stored). IsPlace s.parts c.in_ok-place.place) c.self.view_is
    (is_place (prefix_of (full_of c.self.inside.keys c.args.outer.key)) c.self.inside.keys c.in_ok-place.place
    (sym c.in_ok-place.ensures.value))

pub returns-clause-entry : goal.returns-clause-entry
returns-clause-entry c =
    c.found.ensures.entry
    ∙ ap (λ z. found c.args.self.now.names z c.args.name.now)
    (subst (λ (s : Stored). scope_of s.parts c.in_ok-place.place ≡ prefix_of (full_of s.parts c.args.outer.key)) c.self.view_is
    (scope_is (prefix_of (full_of c.self.inside.keys c.args.outer.key)) c.self.inside.keys c.in_ok-place.place
    (sym c.in_ok-place.ensures.value)))
