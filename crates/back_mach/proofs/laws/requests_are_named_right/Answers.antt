use Rattle.back_mach.proofs.Named.{named_right}
use Rattle.back_mach.proofs.laws.requests_are_named_right.Goals as goal

pub returns : goal.returns
returns c = named_right
