use Rattle.mint.proofs.Images.{IsImage-none, numbers-none}
use Rattle.mint.proofs.row.Row.new.Goals as goal

pub invariant_of-result : goal.invariant_of-result
invariant_of-result c = rw c.new.ensures (IsImage-none c.args.kind)

pub returns : goal.returns
returns c = rw (c.new.ensures, numbers-none c.args.kind)
