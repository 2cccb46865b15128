use Rattle.mint.proofs.BlankTyped.{blank_is_well_typed}
use Rattle.mint.proofs.laws.blanks_are_well_typed.Goals as goal

pub returns : goal.returns
returns c = blank_is_well_typed
