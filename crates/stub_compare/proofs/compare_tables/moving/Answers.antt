use Rattle.stub_compare.proofs.CompareTables.{moving_is}
use Rattle.stub_compare.proofs.compare_tables.moving.Goals as goal

pub returns : goal.returns
returns c = moving_is c.args.n _ _ c.start.ensures c.move_each.ensures
