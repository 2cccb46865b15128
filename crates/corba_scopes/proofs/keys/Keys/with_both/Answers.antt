use Rattle.std.proofs.Common.{◌++◌, ap, subst, ◌∙◌}
use Rattle.corba_scopes.specs.Parted.{key_of, scope_of, PutsKey}
use Rattle.corba_scopes.proofs.Parting.{both_put, place_more, scope_more}
use Rattle.corba_scopes.proofs.keys.Keys.with_both.Goals as goal

pub with_other-requires-clause-place : goal.with_other-requires-clause-place
with_other-requires-clause-place c = place_more c.args.self c.in_ok-keys.keys c.args.place c.in_ok-keys.ensures.more c.requires

pub with_other-requires-clause-key : goal.with_other-requires-clause-key
with_other-requires-clause-key c =
    ap (λ z. key_of (z ++ c.args.name.now) c.in_ok-keys.keys)
    (scope_more c.args.self c.in_ok-keys.keys c.args.place c.in_ok-keys.ensures.more c.requires) ∙ c.in_ok-keys.ensures.at

pub returns : goal.returns
returns c =
    let scope = scope_of c.args.self c.args.place in
    let same = scope_more c.args.self c.in_ok-keys.keys c.args.place c.in_ok-keys.ensures.more c.requires in
    both_put (scope ++ c.args.name.now) (scope ++ c.args.other.now) c.args.self c.in_ok-keys.keys c.in_ok-keys-2.keys c.in_ok-keys.key
    c.in_ok-keys-2.below c.in_ok-keys.ensures
    (subst (λ z. PutsKey (z ++ c.args.other.now) c.in_ok-keys.keys c.in_ok-keys-2.keys c.in_ok-keys-2.below) same c.in_ok-keys-2.ensures)
