use Rattle.aoi.proofs.Numbers.{count_on}
use Rattle.aoi.proofs.distinct.count_item_numbers.Goals as goal

pub loop-i-preserved : goal.loop-i-preserved
loop-i-preserved c =
    count_on c.args.items.now c.loop-i.i c.index-items-i.result c.loop-i.count c.new_number-count.result _
    c.loop-i.invariant.0 c.loop-i.invariant.1 c.loop-i-test.true c.index-items-i.is c.new_number-count.ensures
