use Rattle.std.proofs.Common.{arith}
use Rattle.stub_compare.proofs.CompareLaying.{plus_none, lengths_more, lengths_done}
use Rattle.stub_compare.proofs.compare_cells.lengths.Goals as goal

pub loop-put-init : goal.loop-put-init
loop-put-init c = plus_none _

pub loop-put-preserved : goal.loop-put-preserved
loop-put-preserved c =
    lengths_more _ c.as_slice-put-items.result.now c.loop-put.put-index c.put-item.result c.loop-put.sum c.put_length.result _
    c.loop-put-test.true c.put-item.is c.loop-put.invariant c.put_length.ensures c.in_ok-sum.ensures

pub returns : goal.returns
returns c =
    lengths_done c.as_slice-put-items.result.now _ c.loop-put.put-index _ (omega (arith, c.loop-put-test.false))
    c.as_slice-put-items.ensures c.loop-put.invariant
