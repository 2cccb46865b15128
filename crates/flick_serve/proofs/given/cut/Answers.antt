use Rattle.std.proofs.Common.{◌==◌, sym}
use Rattle.flick_serve.proofs.Cutting.{cut_at, cut_not}
use Rattle.flick_serve.proofs.given.cut.Goals as goal

pub returns-in-Some-clause-split : goal.returns-in-Some-clause-split
returns-in-Some-clause-split c =
    rw (c.parts.ensures.before, c.parts.ensures.after)
    (cut_at (λ o. o == 10) c.args.text.now c.in-Some.end (sym c.in-Some.ensures.value))

pub returns-in-None-clause-split : goal.returns-in-None-clause-split
returns-in-None-clause-split c = cut_not (λ o. o == 10) c.args.text.now (sym c.in-None.ensures.value)
