use Rattle.std.proofs.Common.{rules}
use Rattle.giop_head.proofs.Passed.{one_stopped}
use Rattle.giop_head.proofs.contexts.many.Goals as goal

pub returns-in_err-at : goal.returns-in_err-at
returns-in_err-at c =
    let stopped = one_stopped c.args.order c.args.n c.loop-i._i c.loop-i.at.place c.args.at.place c.loop-i.at.rest.now c.args.at.rest.now
    c.in_err-at.field-0.0 c.loop-i.invariant c.loop-i-test.true c.in_err-at.ensures in
    search (rules, stopped)
