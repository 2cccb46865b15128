use Rattle.mint.proofs.Measuring.{measured_none}
use Rattle.mint.proofs.table.Mint.new.Goals as goal

pub invariant_of-result : goal.invariant_of-result
invariant_of-result c = rw c.new.ensures.items measured_none
