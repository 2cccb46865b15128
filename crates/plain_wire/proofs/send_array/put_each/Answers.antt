use Rattle.std.proofs.Common.{ap, ◌∙◌, arith, ◌++◌}
use Rattle.plain_wire.proofs.Steps.{breaks, numbers_left}
use Rattle.plain_wire.proofs.send_array.put_each.Goals as goal

pub returns-in_err-at : goal.returns-in_err-at
returns-in_err-at c =
    let left = numbers_left c.args.enc c.args.kind c.args.row.now.numbers c.loop-i.i (omega arith) in
    breaks c.from_residual.result c.in_err-at.field-0.0 c.args.out.now c.loop-i.out c.put_at.new.out _ _ _ c.args.place c.loop-i.at
    c.from_residual.ensures.0 (c.loop-i.invariant.reported
    ∙ ap (λ z. c.loop-i.out ++ z) left) c.loop-i.invariant.grown c.in_err-at.ensures
