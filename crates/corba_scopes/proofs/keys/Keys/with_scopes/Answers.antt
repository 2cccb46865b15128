use Rattle.std.proofs.Common.{◌++◌, subst, ap}
use Rattle.corba_scopes.specs.Around.{prefix_of}
use Rattle.corba_scopes.specs.Parted.{full_of, scope_of, PutsScope}
use Rattle.corba_scopes.proofs.Parting.{is_more, full_more, scopes_put}
use Rattle.corba_scopes.proofs.keys.Keys.with_scopes.Goals as goal

pub with_scope_after-requires : goal.with_scope_after-requires
with_scope_after-requires c = is_more c.args.self c.in_ok-keys.keys c.args.other c.in_ok-keys.ensures.more c.requires.other

pub returns : goal.returns
returns c =
    scopes_put (prefix_of (scope_of c.args.self c.args.place ++ c.args.name.now)) (prefix_of (full_of c.args.self c.args.other)) c.args.self
    c.in_ok-keys.keys c.in_ok-keys-2.keys c.in_ok-keys.place c.in_ok-keys-2.other c.in_ok-keys.ensures
    (subst (λ z. PutsScope z c.in_ok-keys.keys c.in_ok-keys-2.keys c.in_ok-keys-2.other)
    (ap prefix_of (full_more c.args.self c.in_ok-keys.keys c.args.other c.in_ok-keys.ensures.more c.requires.other)) c.in_ok-keys-2.ensures)
