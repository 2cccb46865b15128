use Rattle.std.proofs.Common.{◌++◌, sym, ap, ◌∙◌}
use Rattle.corba_scopes.specs.Parted.{key_of, scope_of}
use Rattle.corba_scopes.proofs.Parting.{key_kept, same_bytes}
use Rattle.corba_scopes.proofs.keys.Keys.with_other.Goals as goal

pub returns-then-eq : goal.returns-then-eq
returns-then-eq c =
    let same = same_bytes c.args.other.now c.args.name.now (sym c.eq.ensures ∙ c.if-eq.true) in
    let scope = scope_of c.args.self c.args.place in
    key_kept (scope ++ c.args.other.now) c.args.self c.args.key (ap (λ z. key_of (scope ++ z) c.args.self) same ∙ c.requires.key)
