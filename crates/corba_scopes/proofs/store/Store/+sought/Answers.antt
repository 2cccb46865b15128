use Rattle.std.proofs.Common.{rules, ◌≡◌, ◌+◌, ◌-◌, [], length, take, ap, subst, ◌∙◌, arith}
use Rattle.std.specs.Option.{option_or}
use Rattle.corba_scopes.specs.Finding.{found, sought}
use Rattle.corba_scopes.specs.Parted.{scope_of}
use Rattle.corba_scopes.specs.Stored.{Stored, scopes_around}
use Rattle.corba_scopes.proofs.Storing.{outer_is, last_is, sought_last, sought_file}
use Rattle.corba_scopes.proofs.store.Store.+sought.Goals as goal

pub found-requires-in-len1-up : goal.found-requires-in-len1-up
found-requires-in-len1-up t c =
    let env = c.args.env.now in
    let size : (length env - 1) + 1 ≡ length env = omega (arith, c.in-len1-up.len_at_least) in
    last_is c.args.self.now.names c.args.self.now.parts env (length env - 1) c.around-item.result c.args.name.now c.around-item.is size
    c.requires

pub sought-requires : goal.sought-requires
sought-requires t c =
    let env = c.args.env.now in
    let size : (length env - 1) + 1 ≡ length env = omega (arith, c.in-len1-up.len_at_least) in (
      search rules,
      outer_is c.args.self.now.names c.args.self.now.parts env (length env - 1) c.around-item.result c.args.name.now
          c.around-item.is size c.requires,
    )

pub returns-in-empty-clause-entry : goal.returns-in-empty-clause-entry
returns-in-empty-clause-entry t c =
    c.found.ensures.entry
    ∙ ap (λ z. found c.args.self.now.names z c.args.name.now)
    (subst (λ (s : Stored). scope_of s.parts c.file.result ≡ []) c.self.view_is c.file.ensures.scope)
    ∙ sought_file c.args.self.now.names c.args.env.now c.args.name.now c.in-empty.len_below

pub returns-in-Some-clause-entry : goal.returns-in-Some-clause-entry
returns-in-Some-clause-entry t c =
    let env = c.args.env.now in
    let size : (length env - 1) + 1 ≡ length env = omega (arith, c.in-len1-up.len_at_least) in
    let outer = sought c.args.self.now.names (scopes_around (take (length env - 1) env)) c.args.name.now in
    ap (λ o. option_or o outer) c.in-Some.ensures.entry
    ∙ sought_last c.args.self.now.names c.args.self.now.parts env (length env - 1) c.around-item.result c.args.name.now c.around-item.is
    size c.requires

pub returns-in-None-clause-entry : goal.returns-in-None-clause-entry
returns-in-None-clause-entry t c =
    let env = c.args.env.now in
    let size : (length env - 1) + 1 ≡ length env = omega (arith, c.in-len1-up.len_at_least) in
    let outer = sought c.args.self.now.names (scopes_around (take (length env - 1) env)) c.args.name.now in
    c.sought.ensures.entry ∙ ap (λ o. option_or o outer) c.in-None.ensures.entry
    ∙ sought_last c.args.self.now.names c.args.self.now.parts env (length env - 1) c.around-item.result c.args.name.now c.around-item.is
    size c.requires
