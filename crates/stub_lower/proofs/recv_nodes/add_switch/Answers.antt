use Rattle.std.proofs.Common.{arith}
use Rattle.cast_stub.proofs.Directions.{receives}
use Rattle.stub_lower.proofs.Calling.{switch_put}
use Rattle.stub_lower.proofs.recv_nodes.add_switch.Goals as goal

pub returns : goal.returns
returns c = switch_put receives c.add.result c.args.arms.now c.as_slice-n-items.result.now c.loop-n.n-index _ _ _ _ _ _ _
    c.as_slice-n-items.ensures
    (omega (arith, c.loop-n-test.false)) c.new.ensures c.loop-n.invariant c.in_ok-default.ensures c.in_ok-switch.ensures
    c.add.ensures
