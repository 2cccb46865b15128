use Rattle.flick_check.proofs.Going.{goes_by, within_by, ends_by}
use Rattle.flick_check.proofs.answers.check_stubs.Goals as goal

pub returns-in_default : goal.returns-in_default
returns-in_default c =
    ends_by c.args.engine.now c.args.text.now c.parts.rest.now _ _ _ c.parts.line _ c.parts.invariant.goes c.in_default.is
    c.in_ok-used.ensures.taken c.in_ok-put_last.ensures

pub parts-preserved : goal.parts-preserved
parts-preserved c = record {
  goes = goes_by c.args.engine.now c.args.text.now c.parts.rest.now _ _ _ _ c.parts.line c.in-Some.used _ _ c.parts.invariant.goes
      c.in-Some.is c.in_ok-used.ensures.taken c.feeds-line.ensures.value c.parted.ensures.before c.parted.ensures.after;
  within = within_by c.args.text.now c.parts.rest.now _ _ c.parts.line c.in-Some.used _ _ c.parts.invariant.within c.in-Some.is
      c.in_ok-used.ensures.within c.feeds-line.ensures.within c.parted.ensures.before c.parted.ensures.after;
}
