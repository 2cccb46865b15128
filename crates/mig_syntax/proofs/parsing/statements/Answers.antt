use Rattle.std.proofs.Common.{arith}
use Rattle.idl_read.proofs.Files.{next, shorter, fails_at}
use Rattle.mig_syntax.proofs.StatementsRead.{statement_is, leads_statement}
use Rattle.mig_syntax.proofs.parsing.statements.Goals as goal

pub items-smaller : goal.items-smaller
items-smaller c = shorter statement_is leads_statement c.items.rest.now c.in-Ok.after.now c.in-Ok.item c.in-Ok.ensures

pub items-preserved : goal.items-preserved
items-preserved c =
    rw c.in_ok-push-in-Ok.ensures.ok (next statement_is leads_statement c.args.tokens.now c.items.rest.now c.in-Ok.after.now c.items.items
    c.in-Ok.item c.items.invariant c.in-Ok.ensures)

pub returns-in-Err-Syntax-clause-stop : goal.returns-in-Err-Syntax-clause-stop
returns-in-Err-Syntax-clause-stop c =
    fails_at statement_is leads_statement c.args.tokens.now c.items.rest.now c.items.items c.first-item.result c.items.invariant
    (omega (arith, c.in-len1-up.len_at_least)) c.first-item.is
    (rw c.in-Err-Syntax.field-0-is at c.in-Err-Syntax.ensures)
