use Rattle.std.proofs.Common.{sym, ◌∙◌, arith}
use Rattle.std.specs.Str.Iter.{chars_rest}
use Rattle.pres.proofs.Passing.{starts, goes_on, differs, falls_short, ends}
use Rattle.pres.proofs.texts.text_after.Goals as goal

pub loop-octet-init : goal.loop-octet-init
loop-octet-init c = starts c.args.octets.now (chars_rest c.args.chars) c.requires

pub returns-in_default-clause-none : goal.returns-in_default-clause-none
returns-in_default-clause-none c =
    falls_short c.args.octets.now c.loop-octet.octet-index _ _ c.loop-octet-test.true c.loop-octet.invariant c.in_default.ensures.steps.0.0

pub returns-then-from-clause-none : goal.returns-then-from-clause-none
returns-then-from-clause-none c =
    differs c.args.octets.now c.loop-octet.octet-index c.in-Some.c _ _ _ c.loop-octet-test.true c.loop-octet.invariant
    c.in-Some.ensures.steps.0 (λ e. c.if-from.true (c.from.ensures ∙ e ∙ sym c.from-in-loop-octet.ensures))

pub loop-octet-preserved : goal.loop-octet-preserved
loop-octet-preserved c =
    goes_on c.args.octets.now c.loop-octet.octet-index c.in-Some.c _ _ _ c.loop-octet-test.true c.loop-octet.invariant
    c.in-Some.ensures.steps.0 (sym c.from.ensures ∙ c.if-from.false ∙ c.from-in-loop-octet.ensures)

pub returns-clause-some : goal.returns-clause-some
returns-clause-some c = ends c.args.octets.now c.loop-octet.octet-index _ _ (omega (arith, c.loop-octet-test.false)) c.loop-octet.invariant
