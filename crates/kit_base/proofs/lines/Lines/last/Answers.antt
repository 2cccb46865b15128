use Rattle.std.proofs.Common.{arith, length, take, drop, ◌∙◌, ◌∷◌, [], ◌≡◌, drop_of_length-le, Some, ap}
use Rattle.std.proofs.lemmas.List.{take_all}
use Rattle.kit_base.specs.declared.lines.Line.TheVariants.{End}
use Rattle.kit_base.proofs.Cutting.{passed-last, answered-line}
use Rattle.kit_base.proofs.lines.Lines.last.Goals as goal

pub returns-in-Some-clause-lines : goal.returns-in-Some-clause-lines
returns-in-Some-clause-lines c =
    let s = c.args.self.now in
    let whole : take (length s.kept) s.kept ≡ s.kept = take_all (length s.kept) s.kept (omega arith) in
    let gone : drop (length s.kept) s.kept ≡ [] = drop_of_length-le s.kept (omega arith) in
    let lines = rw (c.kept-end.ensures, whole, c.in-Some.is) at c.in_ok-line.ensures.lines in
    let is_line : c.in-Some.line ≡ End → ⊥ = λ e. c.in_ok-line.ensures.no_end (c.in-Some.is ∙ ap Some e) in
    rw (c.drop_line.ensures, c.kept-end.ensures, gone, answered-line c.in-Some.line is_line)
    (passed-last s (c.in-Some.line ∷ []) c.requires.open_end c.requires.ended lines)

pub returns-in-None-clause-lines : goal.returns-in-None-clause-lines
returns-in-None-clause-lines c =
    let s = c.args.self.now in
    let whole : take (length s.kept) s.kept ≡ s.kept = take_all (length s.kept) s.kept (omega arith) in
    let gone : drop (length s.kept) s.kept ≡ [] = drop_of_length-le s.kept (omega arith) in
    let lines = rw (c.kept-end.ensures, whole, c.in-None.is) at c.in_ok-line.ensures.lines in
    rw (c.drop_line.ensures, c.kept-end.ensures, gone)
    (passed-last s [] c.requires.open_end c.requires.ended lines)
