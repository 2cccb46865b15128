use Rattle.giop_head.proofs.Steps.{flag_zero, flag_one}
use Rattle.giop_head.proofs.items.flag.Goals as goal

pub returns-then-first-eq0 : goal.returns-then-first-eq0
returns-then-first-eq0 c = flag_zero c.args.at.place c.in-Some.first.now c.args.at.rest.now c.in-Some.rest.now c.in-Some.ensures.cases.0
    c.if-first-eq0.true

pub returns-then-first-eq1 : goal.returns-then-first-eq1
returns-then-first-eq1 c = flag_one c.args.at.place c.in-Some.first.now c.args.at.rest.now c.in-Some.rest.now c.in-Some.ensures.cases.0
    c.if-first-eq1.true
