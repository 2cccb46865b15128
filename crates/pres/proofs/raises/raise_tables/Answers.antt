use Rattle.std.proofs.Common.{◌∙◌}
use Rattle.pres.proofs.Found.{all_found}
use Rattle.pres.proofs.raises.raise_tables.Goals as goal

pub returns : goal.returns
returns c =
    all_found c.args.back c.args.unit.now.interfaces c.as_slice.result.now c.new-tables.result.items c.put_interfaces.new.tables.items
    (c.as_slice.ensures ∙ c.interfaces.ensures) c.new-tables.ensures.items c.in_ok-put_interfaces.ensures
