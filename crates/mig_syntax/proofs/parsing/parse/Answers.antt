use Rattle.std.proofs.Common.{◌∙◌, sym, ap}
use Rattle.mig_syntax.specs.StatementReaders.{heading_at}
use Rattle.mig_syntax.proofs.Fronts.{whole, explained, unheaded_at}
use Rattle.mig_syntax.proofs.parsing.parse.Goals as goal

pub returns-in-Ok-statements-clause-tree : goal.returns-in-Ok-statements-clause-tree
returns-in-Ok-statements-clause-tree c =
    whole c.args.tokens.now c.in-Ok.rest.now c.in-Ok.name c.in-Ok.base c.in-Ok-statements.statements
    (sym (ap heading_at c.as_slice-all.ensures) ∙ c.in-Ok.ensures) c.in-Ok-statements.ensures.tree

pub returns-in-Err-clause-stop : goal.returns-in-Err-clause-stop
returns-in-Err-clause-stop c =
    explained c.args.tokens.now c.in-Ok.rest.now c.in-Ok.name c.in-Ok.base c.in-Err.fault
    (sym (ap heading_at c.as_slice-all.ensures) ∙ c.in-Ok.ensures) c.in-Err.ensures.stop

pub returns-in-Err-Syntax-clause-stop : goal.returns-in-Err-Syntax-clause-stop
returns-in-Err-Syntax-clause-stop c =
    unheaded_at c.args.tokens.now c.as_slice-all.result.now c.first_line.result c.as_slice-all.ensures c.first_line.ensures
    (rw c.in-Err-Syntax.field-0-is at c.in-Err-Syntax.ensures)
