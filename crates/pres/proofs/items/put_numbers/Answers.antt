use Rattle.pres.proofs.Tabled.{number_before}
use Rattle.pres.proofs.items.put_numbers.Goals as goal

pub loop-i-preserved : goal.loop-i-preserved
loop-i-preserved c =
    number_before c.args.items.now c.loop-i.i c.index-items-i.result c.index-items-i-in-loop-i.result c.as_slice.result.now
    c.loop-i.numbers c.put_number.new.numbers c.loop-i-test.true c.loop-i.invariant c.as_slice.ensures (λ s. c.in_ok-put_number.ensures s)
