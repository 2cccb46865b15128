use Rattle.stub_compare.proofs.CompareTables.{closed_by_moves}
use Rattle.stub_compare.proofs.compare_tables.close_by.Goals as goal

pub returns : goal.returns
returns c = closed_by_moves c.args.n c.moving.result c.args.table.now c.close_each.result c.moving.ensures c.close_each.ensures
