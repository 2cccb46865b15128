use Rattle.back_xdr.proofs.Named.{named_right}
use Rattle.back_xdr.proofs.laws.calls_are_named_right.Goals as goal

pub returns : goal.returns
returns c = named_right
