use Rattle.std.proofs.Common.{map}
use Rattle.aoi.specs.Plain.{plain_raise}
use Rattle.pres.proofs.Found.{table_named}
use Rattle.pres.proofs.raises.raise_table.Goals as goal

pub returns : goal.returns
returns c =
    table_named (map plain_raise c.args.raises.now) c.in_ok-names.names c.in_ok-table.table c.in_ok-table.ensures c.in_ok-names.ensures
