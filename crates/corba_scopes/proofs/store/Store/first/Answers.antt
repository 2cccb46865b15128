use Rattle.std.proofs.Common.{◌≡◌, [], sym, ap, subst, ◌∙◌}
use Rattle.corba_scopes.specs.Finding.{found, first}
use Rattle.corba_scopes.specs.Parted.{scope_of}
use Rattle.corba_scopes.specs.Stored.{Stored}
use Rattle.corba_scopes.proofs.store.Store.first.Goals as goal

pub returns-then-absolute-clause-entry : goal.returns-then-absolute-clause-entry
returns-then-absolute-clause-entry c =
    c.found.ensures.entry
    ∙ ap (λ z. found c.args.self.now.names z c.args.name.now)
    (subst (λ (s : Stored). scope_of s.parts c.file.result ≡ []) c.self.view_is c.file.ensures.scope)
    ∙ ap (λ b. first c.args.self.now.names b c.args.name.now) (sym c.if-absolute.true)
