use Rattle.std.proofs.Common.{arith, ap, ◌∙◌, ℕ, ◌+◌, ◌<◌, ◌++◌, length, drop, get_or, length-append, refl}
use Rattle.mint.specs.Values.{seen, all_seen}
use Rattle.mint.specs.Types.{type_at, level, unfolded, fields_at}
use Rattle.wire_def.specs.Send.{send, send_fields}
use Rattle.plain_wire.proofs.Steps.{breaks, goes_on}
use Rattle.mint.proofs.Fitting.{count-all_seen, are_many}
use Rattle.plain_wire.proofs.Values.{row_typed, all_at, are_here, are_more, fields_left, each_left}
use Rattle.plain_wire.proofs.send.+put.Goals as goal

pub put_choice-returns-in_err-after : goal.put_choice-returns-in_err-after
put_choice-returns-in_err-after t c =
    breaks c.from_residual.result c.in_err-after.field-0.0 c.args.out.now c.args.out.now c.put_scalar.new.out _ _ _ c.args.place
    c.args.place c.from_residual.ensures.0 refl (omega arith) c.in_err-after.ensures

pub put_present-returns-in_err-after : goal.put_present-returns-in_err-after
unfolding send
put_present-returns-in_err-after t c =
    breaks c.from_residual.result c.in_err-after.field-0.0 c.args.out.now c.args.out.now c.put_lone.new.out _ _ _ c.args.place
    c.args.place c.from_residual.ensures.0 refl (omega arith) c.in_err-after.ensures

pub put_items-returns-in_err-after : goal.put_items-returns-in_err-after
unfolding send
put_items-returns-in_err-after t c =
    rw (count-all_seen, ← c.len.ensures)
    (breaks c.from_residual.result c.in_err-after.field-0.0 c.args.out.now c.args.out.now c.put_count.new.out _ _ _ c.args.place
    c.args.place c.from_residual.ensures.0 refl (omega arith) c.in_err-after.ensures)

pub put_each-returns-in_err-at : goal.put_each-returns-in_err-at
put_each-returns-in_err-at t c =
    let left = each_left (send c.args.enc (type_at c.args.mint.now c.args.item)) c.as_slice-value-items.result.now
    c.loop-value.value-index c.loop-value.at c.value-item.result c.loop-value-test.true in
    let here = rw (← c.value-item.is) at left in
    let reported = c.loop-value.invariant.reported ∙ ap (λ z. c.loop-value.out ++ z) here in
    rw (← c.as_slice-value-items.ensures)
    (breaks c.from_residual.result c.in_err-at.field-0.0 c.args.out.now c.loop-value.out c.put_value.new.out _ _ _ c.args.place
    c.loop-value.at c.from_residual.ensures.0 reported c.loop-value.invariant.grown c.in_err-at.ensures)

pub put_fields-put_value-requires : goal.put_fields-put_value-requires
put_fields-put_value-requires t c =
    let many = are_many (unfolded c.args.mint.now) c.args.ids.now c.args.values.now c.requires.typed in
    let short : c.loop-i.i < length c.as_slice-values.result.now =
    omega (arith, ap length c.as_slice-values.ensures, ap length c.as_slice-ids.ensures) in
    let typed = are_here (unfolded c.args.mint.now) c.as_slice-ids.result.now c.as_slice-values.result.now c.loop-i.i
    c.index-values-i.result c.loop-i.invariant.typed c.loop-i-test.true short c.index-values-i.is in
    let below = all_at c.args.id c.as_slice-ids.result.now c.loop-i.i c.loop-i-test.true
    (rw (← c.as_slice-ids.ensures) at c.requires.below) in
    (omega arith, (omega arith, (typed, omega arith)))

pub put_fields-returns-in_err-at : goal.put_fields-returns-in_err-at
put_fields-returns-in_err-at t c =
    let vs = c.as_slice-values.result.now in
    let ids = c.as_slice-ids.result.now in
    let many = are_many (unfolded c.args.mint.now) c.args.ids.now c.args.values.now c.requires.typed in
    let short : c.loop-i.i < length vs = omega (arith, ap length c.as_slice-values.ensures, ap length c.as_slice-ids.ensures) in
    let here =
    rw (← c.index-values-i.is) at (fields_left c.args.enc (unfolded c.args.mint.now) ids vs c.loop-i.i c.loop-i.at
    c.index-values-i.result c.loop-i-test.true short) in
    let reported = c.loop-i.invariant.reported ∙ ap (λ z. c.loop-i.out ++ z) here in
    rw (← c.as_slice-ids.ensures, ← c.as_slice-values.ensures)
    (breaks c.from_residual.result c.in_err-at.field-0.0 c.args.out.now c.loop-i.out c.put_value.new.out _ _ _ c.args.place
    c.loop-i.at c.from_residual.ensures.0 reported c.loop-i.invariant.grown c.in_err-at.ensures)

pub put_fields-loop-i-preserved : goal.put_fields-loop-i-preserved
put_fields-loop-i-preserved t c =
    let us = unfolded c.args.mint.now in
    let vs = c.as_slice-values.result.now in
    let ids = c.as_slice-ids.result.now in
    let many = are_many us c.args.ids.now c.args.values.now c.requires.typed in
    let short : c.loop-i.i < length vs = omega (arith, ap length c.as_slice-values.ensures, ap length c.as_slice-ids.ensures) in
    let here =
    rw (← c.index-values-i.is) at (fields_left c.args.enc us ids vs c.loop-i.i c.loop-i.at c.index-values-i.result c.loop-i-test.true
    short) in
    let more = λ (q : ℕ). send_fields c.args.enc (fields_at us (drop (c.loop-i.i + 1) ids)) q (all_seen (drop (c.loop-i.i + 1) vs)) in
    record {
      typed = (are_more us ids vs c.loop-i.i c.index-values-i.result c.loop-i-test.true short c.loop-i.invariant.typed).1;
      reported = goes_on c.args.out.now _ c.loop-i.out c.put_value.new.out _ _ more c.loop-i.at c.in_ok-at.at c.loop-i.invariant.reported
          here c.in_ok-at.ensures.0 c.in_ok-at.ensures.1;
      placed = omega (arith, c.in_ok-at.ensures.1, c.loop-i.invariant.placed);
      grown =
          omega (
            arith,
            ap length c.in_ok-at.ensures.0,
            length-append c.loop-i.out (send c.args.enc (type_at c.args.mint.now (get_or ids c.loop-i.i 0)) c.loop-i.at
                (seen c.index-values-i.result)),
            c.loop-i.invariant.grown,
          );
    }

pub put_value-put_row-requires-clause-typed : goal.put_value-put_row-requires-clause-typed
put_value-put_row-requires-clause-typed t c =
    row_typed (type_at c.args.mint.now c.args.id) (seen c.args.value.now) _ c.in-Row.kind c.in-Row.bound _
    (c.in-Some.ensures.is ∙ ap (level (unfolded c.args.mint.now)) c.in-Row.is) c.in-Some-as_row-2.ensures c.requires.typed
