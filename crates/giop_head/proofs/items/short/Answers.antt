use Rattle.std.proofs.Common.{◌+◌}
use Rattle.wire_def.specs.Scalars.{gap}
use Rattle.giop_head.proofs.Steps.{short_short}
use Rattle.giop_head.proofs.items.short.Goals as goal

pub returns-then-at-gap : goal.returns-then-at-gap
returns-then-at-gap c =
    (c.args.at.place + gap c.args.at.place 2, short_short c.args.order c.args.at.place c.args.at.rest.now c.if-at-gap.true)
