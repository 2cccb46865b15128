use Rattle.std.proofs.Common.{rules, ◌≡◌, None, Some, ◌∙◌, arith}
use Rattle.corba_scopes.specs.Parted.{parts_of}
use Rattle.corba_scopes.proofs.Scoping.{scope_seen, lacks_seen}
use Rattle.corba_scopes.proofs.keys.Keys.scope_after.Goals as goal

pub returns-in_err-before-clause-value : goal.returns-in_err-before-clause-value
returns-in_err-before-clause-value c =
    let none : c.from_residual.result ≡ None = search rules in
    none
    ∙ scope_seen (parts_of c.self.inside.owns c.self.inside.scopes.keys) c.args.self.now c.self.inside.scopes.keys c.args.key None
    c.self.invariant c.self.view_is c.requires c.in_err-before.ensures.index

pub returns-in_err-before-clause-none : goal.returns-in_err-before-clause-none
returns-in_err-before-clause-none c =
    λ _.
    lacks_seen (parts_of c.self.inside.owns c.self.inside.scopes.keys) c.args.self.now c.self.inside.scopes.keys c.args.key
    c.self.invariant c.self.view_is
    (scope_seen (parts_of c.self.inside.owns c.self.inside.scopes.keys) c.args.self.now c.self.inside.scopes.keys c.args.key None
    c.self.invariant c.self.view_is c.requires c.in_err-before.ensures.index)

pub overflow_add-result : goal.overflow_add-result
overflow_add-result c = omega (arith, c.in_ok-before.ensures.within, c.len-known.ensures.small, c.len-known.ensures.len)

pub returns-clause-value : goal.returns-clause-value
returns-clause-value c =
    scope_seen (parts_of c.self.inside.owns c.self.inside.scopes.keys) c.args.self.now c.self.inside.scopes.keys c.args.key
    (Some c.in_ok-before.before) c.self.invariant c.self.view_is c.requires c.in_ok-before.ensures.index
