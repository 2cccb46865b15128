use Rattle.std.proofs.Common.{sym, ◌∙◌}
use Rattle.stub_places.specs.Sets.{set_of}
use Rattle.stub_compare.proofs.CompareTables.{row_chosen, row_kept}
use Rattle.stub_compare.proofs.compare_tables.with_row.Goals as goal

pub returns-then-contains : goal.returns-then-contains
returns-then-contains c =
    row_chosen (set_of c.args.set.now c.args.k) (set_of c.args.made.now) c.args.table.now c.args.k c.row.result c.sum.result
    (sym c.contains.ensures ∙ c.if-contains.true) c.row.ensures c.sum.ensures

pub returns-else-contains : goal.returns-else-contains
returns-else-contains c =
    row_kept (set_of c.args.set.now c.args.k) (set_of c.args.made.now) c.args.table.now c.args.k
    (sym c.contains.ensures ∙ c.if-contains.false)
