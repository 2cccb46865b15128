use Rattle.std.proofs.Common.{◌-◌}
use Rattle.back_cdr.specs.Targets.{target_of}
use Rattle.back_cdr.proofs.Short.{id_short}
use Rattle.back_cdr.proofs.leads.reply_octets.Goals as goal

pub user-requires : goal.user-requires
user-requires c =
    rw (c.get.ensures, c.exception_of.ensures)
    (id_short (target_of c.args.bound.now c.args.op) (c.args.arm - 1) (c.names_are_short.ensures c.args.op))
