use Rattle.std.proofs.Common.{◌++◌, sym, ap, subst, ◌∙◌}
use Rattle.corba_scopes.specs.Around.{prefix_of}
use Rattle.corba_scopes.specs.Names.{Names, here}
use Rattle.corba_scopes.specs.Finding.{named, inheriting, with_base}
use Rattle.corba_scopes.specs.Parted.{full_of, IsKey}
use Rattle.corba_scopes.specs.Stored.{Stored}
use Rattle.corba_scopes.proofs.state.Scopes.inherit.Goals as goal

pub with_base-requires : goal.with_base-requires
with_base-requires c =
    subst (λ (s : Stored). IsKey s.parts c.in-Some.base.key) (sym c.replace-store.ensures.value) c.in-Some.ensures.key

pub returns-in_ok-self-inside : goal.returns-in_ok-self-inside
returns-in_ok-self-inside c =
    c.in_ok-self-inside.ensures
    ∙ ap (λ (s : Stored). with_base (prefix_of (here s.names ++ c.args.name.now)) (prefix_of (full_of s.parts c.in-Some.base.key)) s.names)
    c.replace-store.ensures.value
    ∙ ap (λ e. inheriting c.args.name.now e c.self.inside.store.names) c.in-Some.ensures.entry
    ∙ ap (λ (s : Names). inheriting c.args.name.now (named s c.args.base.now) s) c.self.view_is
