use Rattle.flick_engine.proofs.Operating.{are_the_units, are_asked_for}
use Rattle.flick_engine.proofs.laws.operations_match_unit.Goals as goal

pub returns-clause-parameters : goal.returns-clause-parameters
returns-clause-parameters c = are_the_units

pub returns-clause-asked : goal.returns-clause-asked
returns-clause-asked c = are_asked_for
