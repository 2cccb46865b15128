use Rattle.pres.proofs.Found.{interface_more}
use Rattle.pres.proofs.raises.put_interfaces.Goals as goal

pub loop-interface-preserved : goal.loop-interface-preserved
loop-interface-preserved c =
    interface_more c.args.back c.args.interfaces.now c.loop-interface.interface-index c.interface-item.result
    c.args.tables.now.items c.loop-interface.tables.items c.put_interface.new.tables.items c.loop-interface-test.true c.interface-item.is
    c.in_ok-put_interface.ensures c.loop-interface.invariant
