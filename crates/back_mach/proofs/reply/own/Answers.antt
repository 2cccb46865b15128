use Rattle.std.proofs.Common.{◌+◌}
use Rattle.back_mach.proofs.Steps.{other_id}
use Rattle.back_mach.proofs.reply.own.Goals as goal

pub returns-else-header-id : goal.returns-else-header-id
returns-else-header-id c = (
  c.args.at.place + 20,
  other_id c.args.id c.args.total c.args.at.place c.args.at.rest.now c.in_ok-header.header
      c.in_ok-header.next.place c.in_ok-header.next.rest.now c.in_ok-header.ensures c.if-header-id.false,
)
