use Rattle.std.proofs.Common.{arith, sym, refl, ◌≡◌, ◌∙◌, ap, length, drop, Some, false}
use Rattle.kit_base.specs.declared.lines.Line.TheVariants.{End}
use Rattle.kit_base.specs.declared.lines.Cut.TheVariants.{Found}
use Rattle.kit_base.proofs.Cutting.{advances-trans, advances-refl, advances-passed, passed-refill, answered-line}
use Rattle.kit_base.proofs.lines.Lines.step_on.Goals as goal

pub loop-self-init : goal.loop-self-init
loop-self-init g c = record { lines = advances-refl _ _; knows_end = λ h. h; stands = refl; fewer = omega arith; same = refl }

pub returns-in-Found-Some-clause-lines : goal.returns-in-Found-Some-clause-lines
returns-in-Found-Some-clause-lines g c =
    let is_line : c.in-Found-Some.line ≡ End
    → ⊥ = λ e. c.in_ok-line.ensures.no_end (c.in-Found-Some.is ∙ ap Found (c.in-Found-Some.field-0-is ∙ ap Some e)) in
    let cut = rw (c.in-Found-Some.is, c.in-Found-Some.field-0-is) at c.in_ok-line.ensures.lines in
    rw (answered-line c.in-Found-Some.line is_line)
    (advances-trans _ _ _ _ _ _ _ _ c.loop-self.invariant.lines (advances-passed _ _ _ _ cut))

pub returns-in-Found-Some-clause-end : goal.returns-in-Found-Some-clause-end
returns-in-Found-Some-clause-end g c =
    λ e. absurd (c.in_ok-line.ensures.no_end (c.in-Found-Some.is ∙ ap Found (c.in-Found-Some.field-0-is ∙ ap Some (cc e))))

pub returns-then-ended-clause-lines : goal.returns-then-ended-clause-lines
returns-then-ended-clause-lines g c =
    let cut = rw c.in-NoEnd.is at c.in_ok-line.ensures.lines in
    advances-trans _ _ _ _ _ _ _ _ c.loop-self.invariant.lines
    (advances-trans _ _ _ _ _ _ _ _ (advances-passed _ _ _ _ cut) (advances-passed _ _ _ _ c.last.ensures.lines))

pub loop-self-preserved : goal.loop-self-preserved
loop-self-preserved g c =
    let cut = rw c.in-NoEnd.is at c.in_ok-line.ensures.lines in
    let unended : c.cut.new.self.ended ≡ false = sym c.ended.ensures ∙ c.if-ended.false in
    record {
      lines = advances-trans _ _ _ _ _ _ _ _ c.loop-self.invariant.lines (advances-trans _ _ _ _ _ _ _ _ (advances-passed _ _ _ _ cut) (
        drop (length c.cut.new.self.kept) c.refill.new.self.kept,
        c.refill.ensures.got,
        passed-refill _ _ c.refill.ensures.kept c.refill.ensures.count c.refill.ensures.same.0 c.refill.ensures.same.1
            c.refill.ensures.same.2 unended,
      ));
      knows_end = λ h. c.in_default.ensures.end;
      stands = c.loop-self.invariant.stands ∙ c.in_default.ensures.reported (λ e. absurd (cc e));
      fewer =
          omega (
            arith,
            ((rw c.in-NoEnd.is at c.in_ok-line.ensures.open_end) refl).1,
            c.in_default.ensures.falls,
            c.loop-self.invariant.fewer,
          );
      same = c.refill.ensures.same.3 ∙ c.cut.ensures.same.1 ∙ c.loop-self.invariant.same;
    }

pub returns-in-Err-clause-lines : goal.returns-in-Err-clause-lines
returns-in-Err-clause-lines g c =
    let cut = rw c.in-NoEnd.is at c.in_ok-line.ensures.lines in
    let unended : c.cut.new.self.ended ≡ false = sym c.ended.ensures ∙ c.if-ended.false in
    advances-trans _ _ _ _ _ _ _ _ c.loop-self.invariant.lines (advances-trans _ _ _ _ _ _ _ _ (advances-passed _ _ _ _ cut) (
      drop (length c.cut.new.self.kept) c.refill.new.self.kept,
      c.refill.ensures.got,
      passed-refill _ _ c.refill.ensures.kept c.refill.ensures.count c.refill.ensures.same.0 c.refill.ensures.same.1
          c.refill.ensures.same.2 unended,
    ))
