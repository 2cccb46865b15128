use Rattle.std.proofs.Common.{◌≡◌, ◌++◌, sym, ap, ◌∙◌, Option, None, slice_get}
use Rattle.std.proofs.lemmas.Result.{on_ok_weaker}
use Rattle.cast_stub.specs.declared.put.Put.{Put}
use Rattle.stub_compare.specs.CompareCells.{cell_in}
use Rattle.stub_compare.specs.CompareText.{cell_text}
use Rattle.stub_compare.proofs.compare_octets.put_owned.Goals as goal

pub returns-in-None : goal.returns-in-None
returns-in-None c =
    let none : slice_get c.args.puts.now c.args.owner.0 ≡ None = sym c.in-None.ensures in
    on_ok_weaker c.put_number.result
    (λ put rest. ap (λ (o : Option Put). c.args.out.now ++ cell_text (cell_in o c.args.owner.1) rest) none ∙ put rest)
    c.put_number.ensures
