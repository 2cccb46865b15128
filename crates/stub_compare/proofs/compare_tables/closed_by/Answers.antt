use Rattle.stub_compare.proofs.CompareTables.{set_closed_by_moves}
use Rattle.stub_compare.proofs.compare_tables.closed_by.Goals as goal

pub returns : goal.returns
returns c = set_closed_by_moves c.args.n c.moving.result c.args.set.now c.closed.result c.moving.ensures c.closed.ensures
