use Rattle.std.proofs.Common.{rules, ◌≡◌, ◌+◌, ◌-◌, ◌++◌, length, take, subst, sym, ap, ◌∙◌, arith}
use Rattle.std.proofs.lemmas.Result.{IfOk-weaker}
use Rattle.corba_scopes.specs.Around.{prefix_of}
use Rattle.corba_scopes.specs.Parted.{scope_of, PutsScope}
use Rattle.corba_scopes.proofs.Cutting.{front_ends, own_ends, split_is, front_scope, front_empty}
use Rattle.corba_scopes.proofs.Parting.{is_key, is_place, full_is}
use Rattle.corba_scopes.proofs.Scoping.{name_put, scope_after_put, scope_kept}
use Rattle.corba_scopes.proofs.keys.Keys.+with_name.Goals as goal

pub with-with_scope_in-requires : goal.with-with_scope_in-requires
with-with_scope_in-requires t c =
    let ends = front_ends c.args.name.now c.split_at.result.0.now c.cut.result c.cut.ensures.value c.split_at.ensures.front in
    (search rules, (c.requires, ends))

pub with-with_own-requires-clause-place : goal.with-with_own-requires-clause-place
with-with_own-requires-clause-place t c =
    is_place (scope_of c.args.self c.args.place ++ c.split_at.result.0.now) c.in_ok-keys.keys c.in_ok-keys.place c.in_ok-keys.ensures.at

pub with-with_own-requires-clause-own : goal.with-with_own-requires-clause-own
with-with_own-requires-clause-own t c =
    own_ends c.args.name.now c.split_at.result.1.now c.cut.result c.cut.ensures.value c.split_at.ensures.back

pub with-returns : goal.with-returns
with-returns t c =
    IfOk-weaker c.with_own.result _ _
    (λ r puts. name_put c.args.self c.in_ok-keys.keys r.0 c.args.place c.in_ok-keys.place c.args.name.now c.split_at.result.0.now
    c.split_at.result.1.now r.1
    (split_is c.args.name.now c.split_at.result.0.now c.split_at.result.1.now c.cut.result c.split_at.ensures.front c.split_at.ensures.back)
    c.in_ok-keys.ensures puts) c.with_own.ensures

pub with_scope_in-with_scope_after-requires : goal.with_scope_in-with_scope_after-requires
with_scope_in-with_scope_after-requires t c =
    let front = c.args.front.now in
    is_key (scope_of c.args.self c.args.place ++ take (length front - 1) front) c.in_ok-keys-in-len1-up.keys c.in_ok-keys-in-len1-up.key
    c.in_ok-keys-in-len1-up.ensures.at

pub with_scope_in-returns-in-empty : goal.with_scope_in-returns-in-empty
with_scope_in-returns-in-empty t c =
    let front = c.args.front.now in
    let scope = scope_of c.args.self c.args.place in
    subst (λ z. PutsScope z c.args.self c.args.self c.args.place) (sym (front_empty scope front c.in-empty.len_below))
    (scope_kept scope c.args.self c.args.place c.requires.place)

pub with_scope_in-returns-in_ok-keys-in-len1-up : goal.with_scope_in-returns-in_ok-keys-in-len1-up
with_scope_in-returns-in_ok-keys-in-len1-up t c =
    let front = c.args.front.now in
    let scope = scope_of c.args.self c.args.place in
    let name = take (length front - 1) front in
    let size : (length front - 1) + 1 ≡ length front = omega (arith, c.in-len1-up.len_at_least) in
    let keys = c.in_ok-keys-in-len1-up.keys in
    let key = c.in_ok-keys-in-len1-up.key in
    IfOk-weaker c.with_scope_after.result _ _
    (λ r puts. scope_after_put c.args.self keys r.0 (scope ++ name) (scope ++ front) key r.1 c.in_ok-keys-in-len1-up.ensures puts
    (ap prefix_of (full_is (scope ++ name) keys key c.in_ok-keys-in-len1-up.ensures.at)
    ∙ front_scope scope front (length front - 1) size c.requires.front)) c.with_scope_after.ensures
