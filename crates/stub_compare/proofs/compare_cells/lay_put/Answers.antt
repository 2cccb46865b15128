use Rattle.std.proofs.Common.{sym}
use Rattle.stub_compare.proofs.CompareLaying.{put_laid, put_narrow}
use Rattle.stub_compare.proofs.compare_cells.lay_put.Goals as goal

pub returns-in-Some-clause-laid : goal.returns-in-Some-clause-laid
returns-in-Some-clause-laid c =
    put_laid c.args.puts.now c.args.put.now c.args.i c.in-Some.count _ _ _ _ _ c.requires.put (sym c.in-Some.ensures) c.offset.ensures
    c.is_turned.ensures c.lay.ensures.laid

pub returns-in-None-clause-laid : goal.returns-in-None-clause-laid
returns-in-None-clause-laid c = put_narrow c.args.puts.now c.args.put.now _ _ (sym c.in-None.ensures)
