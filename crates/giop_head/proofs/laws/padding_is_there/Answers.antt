use Rattle.std.proofs.Common.{arith}
use Rattle.giop_head.proofs.laws.padding_is_there.Goals as goal

pub returns : goal.returns
returns c n p o fault at long stops = omega (arith, long, stops.0)
