use Rattle.std.proofs.Common.{◌+◌}
use Rattle.back_mach.proofs.Steps.{other_size}
use Rattle.back_mach.proofs.header.header.Goals as goal

pub returns-else-header-total : goal.returns-else-header-total
returns-else-header-total c = (
  c.args.at.place + 4,
  other_size c.args.total c.args.at.place c.args.at.rest.now c.in_ok-header.header c.in_ok-header.next.place
      c.in_ok-header.next.rest.now c.in_ok-header.ensures c.if-header-total.false,
)
