use Rattle.hoist.proofs.EnsuredRows.{ensures_rows}
use Rattle.hoist.proofs.laws.hoisting_ensures_rows.Goals as goal

pub returns : goal.returns
returns c = ensures_rows
