use Rattle.std.proofs.Common.{refl, arith}
use Rattle.plain_wire.specs.Rows.{bare_octets}
use Rattle.plain_wire.proofs.Steps.{breaks, both_appended, scalar_aligned}
use Rattle.plain_wire.proofs.send_scalar.put_number.Goals as goal

pub returns-in_err-after : goal.returns-in_err-after
unfolding bare_octets
returns-in_err-after c =
    let cut = rw c.gap_of.ensures.is at c.in_err-after.ensures in
    rw scalar_aligned (breaks c.from_residual.result c.in_err-after.field-0.0 c.args.out.now c.args.out.now c.put_zeros.new.out _ _ _
    c.args.place c.args.place c.from_residual.ensures.0 refl (omega arith) cut)

pub returns : goal.returns
unfolding bare_octets
returns c =
    let whole = both_appended c.put_bare.result c.args.out.now c.put_zeros.new.out c.put_bare.new.out _ _ c.args.place
    c.in_ok-after.after c.in_ok-after.ensures.0 c.in_ok-after.ensures.1 c.put_bare.ensures in
    rw scalar_aligned (rw c.gap_of.ensures.is at whole)
