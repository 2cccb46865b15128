use Rattle.back_mach.proofs.Lawful.{heads_are_decided}
use Rattle.back_mach.proofs.laws.begins_or_stops.Goals as goal

pub returns : goal.returns
returns c = heads_are_decided
