use Rattle.cast_stub.proofs.Directions.{sends}
use Rattle.stub_lower.proofs.Calling.{calls_turn}
use Rattle.stub_lower.proofs.nodes.add_calls.Goals as goal

pub loop-i-preserved : goal.loop-i-preserved
loop-i-preserved c = rw c.as_slice-id-items.ensures at
    (calls_turn sends c.as_slice-id-items.result.now c.loop-i.i c.in-Ok.n c.in_ok-path_of-in-Ok.field-0 _ _ _ c.loop-i-test.true
    c.in-Ok.ensures.1
    c.in_ok-path_of-in-Ok.ensures (rw (← c.as_slice-id-items.ensures) at c.loop-i.invariant) c.in_ok-add-in-Ok.ensures)
