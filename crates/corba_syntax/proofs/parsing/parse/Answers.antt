use Rattle.std.proofs.Common.{arith}
use Rattle.idl_read.proofs.Files.{next, shorter, fails_at}
use Rattle.corba_syntax.proofs.DefinitionsRead.{outermost_is, leads_outermost}
use Rattle.corba_syntax.proofs.parsing.parse.Goals as goal

pub defs-smaller : goal.defs-smaller
defs-smaller c = shorter outermost_is leads_outermost c.defs.rest.now c.in-Ok.after.now c.in-Ok.def c.in-Ok.ensures

pub defs-preserved : goal.defs-preserved
defs-preserved c =
    rw c.in_ok-push-in-Ok.ensures.ok (next outermost_is leads_outermost c.args.tokens.now c.defs.rest.now c.in-Ok.after.now c.defs.defs
    c.in-Ok.def c.defs.invariant c.in-Ok.ensures)

pub returns-in-Err-Syntax-clause-stop : goal.returns-in-Err-Syntax-clause-stop
returns-in-Err-Syntax-clause-stop c =
    fails_at outermost_is leads_outermost c.args.tokens.now c.defs.rest.now c.defs.defs c.first-item.result c.defs.invariant
    (omega (arith, c.in-len1-up.len_at_least)) c.first-item.is
    (rw c.in-Err-Syntax.field-0-is at c.in-Err-Syntax.ensures)
