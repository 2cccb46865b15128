use Rattle.stub_compare.proofs.CompareLaying.{cells_told, not_laid, not_told, now_told, other_length}
use Rattle.stub_compare.proofs.compare_cells.put_cells.Goals as goal

pub returns-then-not-is_just : goal.returns-then-not-is_just
returns-then-not-is_just c =
    other_length c.args.size c.args.puts.now c.in_ok-total.total _ c.in_ok-total.ensures (c.is_just.ensures.other c.if-not-is_just.true)

pub returns-then-not-laid : goal.returns-then-not-laid
returns-then-not-laid c =
    not_laid c.args.size c.args.puts.now _ _ _ c.in_ok-places.ensures (not_told _ _ _ c.if-not-laid.true c.in_ok-laid.ensures)

pub returns : goal.returns
returns c =
    cells_told c.put_places.result c.args.size c.args.puts.now _ _ _ _ _ c.in_ok-places.ensures
    (now_told _ _ _ c.if-not-laid.false c.in_ok-laid.ensures) c.as_slice.ensures.value c.put_places.ensures
