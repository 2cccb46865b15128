use Rattle.pres.proofs.Existing.{units_bound}
use Rattle.pres.proofs.laws.units_are_bound.Goals as goal

pub returns : goal.returns
returns c = units_bound
