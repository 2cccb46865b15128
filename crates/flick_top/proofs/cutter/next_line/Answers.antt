use Rattle.std.proofs.Common.{rules, ◌≡◌, sym, ap, subst, Ok, Err, Option, Result}
use Rattle.kit_base.specs.declared.lines.Line.TheVariants.{End}
use Rattle.kit_base.specs.declared.lines.LineErr.{LineErr}
use Rattle.kit_base.proofs.Cutting.{answered-line}
use Rattle.flick_top.specs.Giving.{Goes}
use Rattle.flick_top.specs.declared.cutter.Cutter.TheVariants as cutters
use Rattle.flick_top.specs.declared.items.Item.{Item}
use Rattle.flick_top.proofs.GivenLines.{line-given, lines-ended, lines-failed}
use Rattle.flick_top.proofs.cutter.next_line.Goals as goal

pub returns-in_err-line-clause-goes : goal.returns-in_err-line-clause-goes
returns-in_err-line-clause-goes g c =
    let error = c.in_err-line.field-0.0 in
    let same : c.from_residual.result ≡ Err error = search rules in
    subst (λ (r : Result (Option Item) LineErr). Goes (cutters.Lines c.args.lines.now) (cutters.Lines c.next.new.self)
    (g.S.Source.left c.args.source.now) (g.S.Source.left c.next.new.source) r) (sym same)
    (λ k before given h. lines-failed k before _ _ c.args.lines.now c.next.new.self given error h c.in_err-line.ensures.lines
    (c.next.ensures.knows_end h.knows_end)
    (λ f. let r = c.in_err-line.ensures.failed h.fine (ap Err f) in (r.1, r.2)) (λ f. c.in_err-line.ensures.too_much h.fine (ap Err f))
    (λ other. c.in_err-line.ensures.within h.fine (λ e. other (cc e))))

pub returns-then-is_end-clause-goes : goal.returns-then-is_end-clause-goes
returns-then-is_end-clause-goes g c = λ k before given h.
    let end : c.in_ok-line.line ≡ End = c.is_end.ensures.end c.if-is_end.true in
    lines-ended k before _ _ c.args.lines.now c.next.new.self given c.in_ok-line.line end h c.in_ok-line.ensures.lines
    (c.next.ensures.knows_end h.knows_end) (c.in_ok-line.ensures.end (ap Ok end))
    (c.in_ok-line.ensures.within h.fine (λ e. absurd (cc e)))

pub returns-clause-goes : goal.returns-clause-goes
returns-clause-goes g c = λ k before given h.
    let is_line : c.in_ok-line.line ≡ End → ⊥ = c.is_end.ensures.line c.if-is_end.false in
    line-given k before _ _ c.args.lines.now c.next.new.self given c.in_ok-line.line h
    (rw (answered-line c.in_ok-line.line is_line) at c.in_ok-line.ensures.lines) (c.next.ensures.knows_end h.knows_end)
    c.in_ok-line.ensures.fresh (c.in_ok-line.ensures.within h.fine (λ e. absurd (cc e)))
