use Rattle.std.proofs.lemmas.Result.{on_ok_weaker}
use Rattle.stub_compare.proofs.CompareRows.{row_put}
use Rattle.stub_compare.proofs.compare_items.put_numbers.Goals as goal

pub returns : goal.returns
returns c =
    on_ok_weaker c.put_number.result (row_put c.args.path.now c.args.width c.args.order _ _ _ _ c.in_ok-put_over.ensures
    c.in_ok-put_itself.ensures) c.put_number.ensures
