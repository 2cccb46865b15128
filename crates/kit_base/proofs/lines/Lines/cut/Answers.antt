use Rattle.kit_base.proofs.Cutting.{passed-cut}
use Rattle.kit_base.proofs.lines.Lines.cut.Goals as goal

pub returns-clause-lines : goal.returns-clause-lines
returns-clause-lines c =
    let found = c.in-Some.ensures.found in
    let line = rw c.find.ensures.same at c.in_ok-line.ensures.lines in
    rw (c.drop_line.ensures, c.find.ensures.same) (passed-cut c.args.self.now c.in-Some.end c.in_ok-line.line found.1 found.2 line)
