use Rattle.std.proofs.Common.{refl, arith, subst, ◌++◌}
use Rattle.kit_base.specs.Bytes.{le}
use Rattle.mint.specs.Types.{number}
use Rattle.wire_def.specs.Lone.{unit_bits, unit_name}
use Rattle.wire_def.specs.Described.{long_mark, long_words}
use Rattle.plain_wire.specs.Sending.{Appends}
use Rattle.plain_wire.proofs.Steps.{breaks, both_appended}
use Rattle.plain_wire.proofs.send_described.put_long.Goals as goal

pub returns-in_err-after : goal.returns-in_err-after
returns-in_err-after c =
    let more = le 8 (long_words (unit_name (number c.args.kind)) (unit_bits (number c.args.kind)) c.args.many) in
    breaks c.from_residual.result c.in_err-after.field-0.0 c.args.out.now c.args.out.now c.put_four.new.out (le 4 long_mark ++ more)
    (le 4 long_mark) more c.args.place c.args.place c.from_residual.ensures.0 refl (omega arith) c.in_err-after.ensures

pub returns : goal.returns
returns c =
    let whole = both_appended c.put_eight.result c.args.out.now c.put_four.new.out c.put_eight.new.out (le 4 long_mark)
    (le 8 c.long_of.result) c.args.place c.in_ok-after.after c.in_ok-after.ensures.0 c.in_ok-after.ensures.1 c.put_eight.ensures
    in
    subst (λ z. Appends c.args.out.now c.put_eight.new.out c.args.place (le 4 long_mark ++ z) c.put_eight.result) c.long_of.ensures whole
