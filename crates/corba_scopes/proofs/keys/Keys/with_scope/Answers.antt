use Rattle.std.proofs.Common.{◌++◌, ap}
use Rattle.std.proofs.lemmas.Result.{IfOk-weaker}
use Rattle.corba_scopes.specs.Around.{prefix_of}
use Rattle.corba_scopes.specs.Parted.{scope_of}
use Rattle.corba_scopes.proofs.Parting.{is_key, full_is}
use Rattle.corba_scopes.proofs.Scoping.{scope_after_put}
use Rattle.corba_scopes.proofs.keys.Keys.with_scope.Goals as goal

pub with_scope_after-requires : goal.with_scope_after-requires
with_scope_after-requires c =
    is_key (scope_of c.args.self c.args.place ++ c.args.name.now) c.in_ok-keys.keys c.in_ok-keys.key c.in_ok-keys.ensures.at

pub returns : goal.returns
returns c =
    let full = scope_of c.args.self c.args.place ++ c.args.name.now in
    IfOk-weaker c.with_scope_after.result _ _
    (λ r puts. scope_after_put c.args.self c.in_ok-keys.keys r.0 full (prefix_of full) c.in_ok-keys.key r.1 c.in_ok-keys.ensures puts
    (ap prefix_of (full_is full c.in_ok-keys.keys c.in_ok-keys.key c.in_ok-keys.ensures.at))) c.with_scope_after.ensures
