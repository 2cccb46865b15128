use Rattle.idl_lex.proofs.Reading.{go_on, explained}
use Rattle.idl_lex.proofs.lexing.lex.Goals as goal

pub returns-in-Err-clause-stop : goal.returns-in-Err-clause-stop
returns-in-Err-clause-stop c =
    explained c.args.front c.args.text.now c.split_at.result.0.now c.split_at.result.1.now c.pieces.line c.pieces.at c.pieces.imports
    c.pieces.tokens c.in-Err.fault
    c.pieces.invariant c.pieces-test.true c.split_at.ensures.front c.split_at.ensures.back c.in-Err.ensures.piece

pub pieces-preserved : goal.pieces-preserved
pieces-preserved c =
    go_on c.args.front c.args.text.now c.split_at.result.0.now c.split_at.result.1.now c.pieces.line c.pieces.at c.in-Ok.n
    c.line_past-line.result c.pieces.imports c.imports_on-imports.result c.pieces.tokens c.put.new.tokens c.in-Ok.kind
    c.pieces.invariant c.pieces-test.true c.split_at.ensures.front c.split_at.ensures.back c.in-Ok.ensures.piece c.in-Ok.ensures.within.1
    c.line_past-line.ensures c.imports_on-imports.ensures c.in_ok-put-in-Ok.ensures
