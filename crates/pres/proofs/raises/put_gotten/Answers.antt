use Rattle.std.proofs.Common.{◌∙◌}
use Rattle.aoi.specs.Plain.{plain_interface}
use Rattle.pres.proofs.Found.{gotten_more}
use Rattle.pres.proofs.raises.put_gotten.Goals as goal

pub returns-in_ok-push : goal.returns-in_ok-push
returns-in_ok-push c =
    gotten_more c.args.back (plain_interface c.args.interface.now) c.in_ok-table.table c.args.tables.now.items c.push.new.self.items
    c.if-gets_null.ensures (c.in_ok-table.ensures ∙ c.new-names.ensures) c.in_ok-push.ensures.items
