use Rattle.std.proofs.Common.{refl, arith}
use Rattle.plain_wire.proofs.Steps.{breaks, both_appended}
use Rattle.plain_wire.proofs.RowGaps.{row_gapped}
use Rattle.plain_wire.proofs.send_array.put_gapped.Goals as goal

pub returns-in_err-first : goal.returns-in_err-first
returns-in_err-first c =
    let cut = rw (c.gap_before.ensures.is, c.len.ensures) at c.in_err-first.ensures in
    rw row_gapped (breaks c.from_residual.result c.in_err-first.field-0.0 c.args.out.now c.args.out.now c.put_zeros.new.out _ _ _
    c.args.place c.args.place c.from_residual.ensures.0 refl (omega arith) cut)

pub returns : goal.returns
returns c =
    let whole = both_appended c.put_numbers.result c.args.out.now c.put_zeros.new.out c.put_numbers.new.out _ _ c.args.place
    c.in_ok-first.first c.in_ok-first.ensures.0 c.in_ok-first.ensures.1 c.put_numbers.ensures in
    rw row_gapped (rw (c.gap_before.ensures.is, c.len.ensures) at whole)
