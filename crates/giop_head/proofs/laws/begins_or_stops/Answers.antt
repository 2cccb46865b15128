use Rattle.giop_head.proofs.Lawful.{heads_are_decided}
use Rattle.giop_head.proofs.laws.begins_or_stops.Goals as goal

pub returns : goal.returns
returns c = heads_are_decided
