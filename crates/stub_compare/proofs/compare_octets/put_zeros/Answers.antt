use Rattle.stub_compare.proofs.CompareTexts.{zero_more, zeros_done}
use Rattle.stub_compare.proofs.compare_octets.put_zeros.Goals as goal

pub loop-left-preserved : goal.loop-left-preserved
loop-left-preserved c = zero_more c.loop-left.left _ _ _ _ c.loop-left-test.true c.loop-left.invariant c.in_ok-put_number.ensures

pub returns : goal.returns
returns c = zeros_done c.loop-left.left _ _ _ c.loop-left-test.false c.loop-left.invariant
