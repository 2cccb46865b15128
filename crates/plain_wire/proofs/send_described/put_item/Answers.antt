use Rattle.std.proofs.Common.{refl, arith, subst, sym, replicate, ◌++◌}
use Rattle.kit_base.specs.Bytes.{le}
use Rattle.mint.specs.Types.{number}
use Rattle.wire_def.specs.declared.encoding.Encoding.TheVariants.{Mach}
use Rattle.wire_def.specs.Lone.{filling, scalar_word}
use Rattle.plain_wire.specs.Rows.{bare_octets}
use Rattle.plain_wire.specs.Sending.{Appends}
use Rattle.plain_wire.proofs.Descriptors.{item_parts}
use Rattle.plain_wire.proofs.Steps.{breaks, both_appended}
use Rattle.plain_wire.proofs.send_described.put_item.Goals as goal

pub returns-in_err-after : goal.returns-in_err-after
returns-in_err-after c =
    let k = c.args.kind in
    let first = le 4 (scalar_word (number k)) in
    let more = bare_octets Mach k c.args.n.now ++ replicate (filling (number k)) 0 in
    let cut = breaks c.from_residual.result c.in_err-after.field-0.0 c.args.out.now c.args.out.now c.put_one.new.out (first ++ more)
    first more c.args.place c.args.place c.from_residual.ensures.0 refl (omega arith) c.in_err-after.ensures in
    subst
    (λ z.
    Appends c.args.out.now c.put_one.new.out c.args.place z c.from_residual.result) (sym (item_parts k c.args.place c.args.n.now)) cut

pub returns : goal.returns
returns c =
    let k = c.args.kind in
    let first = le 4 (scalar_word (number k)) in
    let more = bare_octets Mach k c.args.n.now ++ replicate (filling (number k)) 0 in
    let whole = both_appended c.put_filled.result c.args.out.now c.put_one.new.out c.put_filled.new.out first more c.args.place
    c.in_ok-after.after c.in_ok-after.ensures.0 c.in_ok-after.ensures.1 c.put_filled.ensures in
    subst
    (λ z.
    Appends c.args.out.now c.put_filled.new.out c.args.place z c.put_filled.result) (sym (item_parts k c.args.place c.args.n.now))
    whole
