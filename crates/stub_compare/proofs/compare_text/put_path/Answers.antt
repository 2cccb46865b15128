use Rattle.std.proofs.Common.{refl, arith}
use Rattle.std.proofs.lemmas.Result.{on_ok_weaker}
use Rattle.stub_compare.proofs.CompareTexts.{field_more, path_done}
use Rattle.stub_compare.proofs.compare_text.put_path.Goals as goal

pub loop-field-preserved : goal.loop-field-preserved
loop-field-preserved c =
    field_more _ c.as_slice-field-items.result.now c.loop-field.field-index _ _ _ _ c.loop-field-test.true refl c.loop-field.invariant
    c.in_ok-put_field.ensures

pub returns : goal.returns
returns c =
    on_ok_weaker c.put_number.result (path_done c.args.path.now c.as_slice-field-items.result.now c.loop-field.field-index _ _ _
    (omega (arith, c.loop-field-test.false)) c.as_slice-field-items.ensures c.loop-field.invariant) c.put_number.ensures
