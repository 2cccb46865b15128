use Rattle.std.proofs.Common.{sym}
use Rattle.mint.proofs.Measuring.{below_taken}
use Rattle.mint.proofs.table.Mint.size_of.Goals as goal

pub measure-requires : goal.measure-requires
measure-requires c = below_taken _ _ (rw (← c.len-2.ensures.value) (sym c.if-not-has_children_below.ensures))
