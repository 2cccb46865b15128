use Rattle.pres.proofs.Found.{operation_more}
use Rattle.pres.proofs.raises.put_operations.Goals as goal

pub loop-op-preserved : goal.loop-op-preserved
loop-op-preserved c =
    operation_more c.args.ops.now c.loop-op.op-index c.op-item.result c.as_slice.result.now c.in_ok-raise_table.field-0
    c.args.tables.now.items c.loop-op.tables.items c.push.new.self.items c.loop-op-test.true c.op-item.is c.as_slice.ensures
    c.in_ok-raise_table.ensures c.in_ok-push.ensures.items c.loop-op.invariant
