use Rattle.hoist.proofs.Sparse.{spares_rows}
use Rattle.hoist.proofs.laws.hoisting_spares_rows.Goals as goal

pub returns : goal.returns
returns c = spares_rows
