use Rattle.std.proofs.Common.{rules, ◌≡◌, ◌+◌, ◌-◌, ◌++◌, None, Some, length, take, refl, sym, ap, ◌∙◌, arith}
use Rattle.corba_scopes.specs.Around.{prefix_of}
use Rattle.corba_scopes.specs.Parted.{parts_of, number_of, scope_of}
use Rattle.corba_scopes.proofs.Cutting.{front_ends, front_scope, front_empty}
use Rattle.corba_scopes.proofs.Parting.{is_key, full_is}
use Rattle.corba_scopes.proofs.Scoping.{key_seen, absent_seen}
use Rattle.corba_scopes.proofs.keys.Keys.+key_in.Goals as goal

pub key-scope_in-requires : goal.key-scope_in-requires
key-scope_in-requires t c =
    let ends = front_ends c.args.name.now c.split_at.result.0.now c.cut.result c.cut.ensures.value c.split_at.ensures.front in
    (search rules, (c.requires, ends))

pub key-returns-in_err-own : goal.key-returns-in_err-own
key-returns-in_err-own t c =
    let none : c.from_residual.result ≡ None = search rules in
    none
    ∙ key_seen (parts_of c.self.inside.owns c.self.inside.scopes.keys) c.args.self.now c.self.inside.scopes.keys c.args.place c.cut.result
    c.args.name.now c.split_at.result.0.now c.split_at.result.1.now _ None c.self.invariant c.self.view_is
    c.cut.ensures.value c.split_at.ensures.front c.split_at.ensures.back refl c.in_err-own.ensures

pub key-returns-in_err-place : goal.key-returns-in_err-place
key-returns-in_err-place t c =
    let none : c.from_residual-in_err-place.result ≡ None = search rules in
    none
    ∙ key_seen (parts_of c.self.inside.owns c.self.inside.scopes.keys) c.args.self.now c.self.inside.scopes.keys c.args.place c.cut.result
    c.args.name.now c.split_at.result.0.now c.split_at.result.1.now None (Some c.in_ok-own.own) c.self.invariant c.self.view_is
    c.cut.ensures.value c.split_at.ensures.front c.split_at.ensures.back c.in_err-place.ensures c.in_ok-own.ensures

pub key-returns : goal.key-returns
key-returns t c =
    key_seen (parts_of c.self.inside.owns c.self.inside.scopes.keys) c.args.self.now c.self.inside.scopes.keys c.args.place c.cut.result
    c.args.name.now c.split_at.result.0.now c.split_at.result.1.now (Some c.in_ok-place.place) (Some c.in_ok-own.own) c.self.invariant
    c.self.view_is c.cut.ensures.value c.split_at.ensures.front c.split_at.ensures.back c.in_ok-place.ensures c.in_ok-own.ensures

pub scope_in-returns-in_err-key-in-len1-up : goal.scope_in-returns-in_err-key-in-len1-up
scope_in-returns-in_err-key-in-len1-up t c =
    let none : c.from_residual.result ≡ None = search rules in
    let front = c.args.front.now in
    let scope = scope_of c.args.self.now c.args.place in
    let size : (length front - 1) + 1 ≡ length front = omega (arith, c.in-len1-up.len_at_least) in
    none
    ∙ absent_seen (parts_of c.self.inside.owns c.self.inside.scopes.keys) c.args.self.now c.self.inside.scopes.keys
    (scope ++ take (length front - 1) front) c.self.invariant c.self.view_is c.in_err-key-in-len1-up.ensures
    ∙ ap (λ z. number_of z c.args.self.now.prefixes) (front_scope scope front (length front - 1) size c.requires.front)

pub scope_in-scope_after-requires : goal.scope_in-scope_after-requires
scope_in-scope_after-requires t c =
    let front = c.args.front.now in
    is_key (scope_of c.args.self.now c.args.place ++ take (length front - 1) front) c.args.self.now c.in_ok-key-in-len1-up.field-0
    (sym c.in_ok-key-in-len1-up.ensures)

pub scope_in-returns-in-empty : goal.scope_in-returns-in-empty
scope_in-returns-in-empty t c =
    sym (ap (λ z. number_of z c.args.self.now.prefixes)
    (front_empty (scope_of c.args.self.now c.args.place) c.args.front.now c.in-empty.len_below) ∙ c.requires.place)

pub scope_in-returns-in_ok-key-in-len1-up : goal.scope_in-returns-in_ok-key-in-len1-up
scope_in-returns-in_ok-key-in-len1-up t c =
    let front = c.args.front.now in
    let scope = scope_of c.args.self.now c.args.place in
    let size : (length front - 1) + 1 ≡ length front = omega (arith, c.in-len1-up.len_at_least) in
    c.scope_after.ensures.value
    ∙ ap (λ z. number_of (prefix_of z) c.args.self.now.prefixes)
    (full_is (scope ++ take (length front - 1) front) c.args.self.now c.in_ok-key-in-len1-up.field-0 (sym c.in_ok-key-in-len1-up.ensures))
    ∙ ap (λ z. number_of z c.args.self.now.prefixes) (front_scope scope front (length front - 1) size c.requires.front)
