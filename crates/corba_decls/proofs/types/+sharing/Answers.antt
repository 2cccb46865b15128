use Rattle.std.proofs.Common.{◌-◌, subst, arith}
use Rattle.corba_decls.proofs.Steps.{stepped}
use Rattle.idl_read.specs.Reading.{Gives}
use Rattle.corba_decls.proofs.types.+sharing.Goals as goal

pub shared-returns : goal.shared-returns
shared-returns t c =
    subst
    (Gives
    (λ x.
    ((x.0, x.1), x.2.now)) c.sharing.result)
    (stepped c.args.levels (c.args.levels - 1) c.args.tokens.now (omega (arith, c.if-levels-eq0.false))) c.sharing.ensures
