use Rattle.std.proofs.Common.{subst, map, ◌<◌, length}
use Rattle.front_corba.proofs.Beside.{first_base}
use Rattle.front_corba.specs.Held.{plain_offer}
use Rattle.front_corba.proofs.bases.clash_beside.Goals as goal

pub returns-in-empty : goal.returns-in-empty
returns-in-empty c =
    first_base c.args.ops.now (map plain_offer c.args.base.now) (subst (λ z. length z < 1) c.as_slice.ensures c.in-empty.len_below)
