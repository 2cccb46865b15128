use Rattle.std.proofs.Common.{◌∙◌, arith}
use Rattle.stub_compare.proofs.CompareLaying.{puts_more, puts_nothing, puts_done, number_there, not_told, now_told}
use Rattle.stub_compare.proofs.compare_cells.lay_all.Goals as goal

pub lay_put-requires-clause-put : goal.lay_put-requires-clause-put
lay_put-requires-clause-put c =
    number_there c.args.puts.now c.as_slice-put-items.result.now c.loop-i.i _ c.put-item.result c.as_slice-put-items.ensures
    c.in_ok-number.ensures c.loop-i-test.true c.put-item.is

pub loop-i-preserved : goal.loop-i-preserved
loop-i-preserved c = record {
  left = puts_more c.as_slice-put-items.result.now c.as_slice-put-items.result.now c.args.puts.now c.loop-i.i c.put-item.result _ _ _
      c.loop-i-test.true c.put-item.is c.loop-i.invariant.left (now_told _ _ _ c.if-not-lay_put.false c.lay_put.ensures.laid);
  size = c.lay_put.ensures.len ∙ c.loop-i.invariant.size;
}

pub returns-then-not-lay_put : goal.returns-then-not-lay_put
returns-then-not-lay_put c =
    puts_nothing c.args.puts.now c.as_slice-put-items.result.now c.args.puts.now c.loop-i.i c.put-item.result _ _ _ _
    c.loop-i-test.true c.put-item.is c.as_slice-put-items.ensures c.loop-i.invariant.left
    (not_told _ _ _ c.if-not-lay_put.true c.lay_put.ensures.laid)

pub returns : goal.returns
returns c =
    puts_done c.args.puts.now c.as_slice-put-items.result.now c.args.puts.now c.loop-i.i _ _ (omega (arith, c.loop-i-test.false))
    c.as_slice-put-items.ensures c.loop-i.invariant.left
