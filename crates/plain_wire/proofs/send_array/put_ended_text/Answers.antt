use Rattle.std.proofs.Common.{refl, arith}
use Rattle.plain_wire.proofs.Steps.{breaks}
use Rattle.plain_wire.proofs.Arrays.{text_elements}
use Rattle.plain_wire.proofs.send_array.put_ended_text.Goals as goal

pub returns-in_err-after : goal.returns-in_err-after
returns-in_err-after c =
    rw text_elements (breaks c.from_residual.result c.in_err-after.field-0.0 c.args.out.now c.args.out.now c.put_octets.new.out _ _ _
    c.args.place c.args.place c.from_residual.ensures.0 refl (omega arith) c.in_err-after.ensures)
