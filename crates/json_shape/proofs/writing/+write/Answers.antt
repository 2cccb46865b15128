use Rattle.std.proofs.Common.{◌<◌, length, sym, ◌∙◌, ap, arith}
use Rattle.mint.specs.Values.{seen}
use Rattle.pres.specs.Faces.{faces, face_at}
use Rattle.serde_json.specs.Data.{array}
use Rattle.serde_json.proofs.Views.{view-Array}
use Rattle.json_shape.proofs.Arms.{arm_written, arm_null}
use Rattle.json_shape.proofs.Items.{values_more, values_done, parts_more, parts_done}
use Rattle.json_shape.proofs.Seen.{view-Null}
use Rattle.json_shape.proofs.writing.+write.Goals as goal

pub arm-returns-in-Some : goal.arm-returns-in-Some
arm-returns-in-Some t c =
    rw (arm_written (faces c.args.bound.now.nodes c.args.bound.now.shapes) c.args.arms.now c.args.other c.args.n.now c.in-Some.item
    (seen c.args.inner.now) (sym c.in-Some.ensures)) c.json.ensures

pub arm-returns-in-None : goal.arm-returns-in-None
arm-returns-in-None t c =
    view-Null ∙ sym (arm_null (faces c.args.bound.now.nodes c.args.bound.now.shapes) c.args.arms.now c.args.other c.args.n.now
    (seen c.args.inner.now) (sym c.in-None.ensures))

pub in_order-loop-i-preserved : goal.in_order-loop-i-preserved
in_order-loop-i-preserved t c =
    let fs = faces c.args.bound.now.nodes c.args.bound.now.shapes in
    let least = rw (c.as_slice-ids.ensures, c.as_slice-values.ensures) at c.min-i-end.ensures in
    let in_ids : c.loop-i.i < length c.args.ids.now = omega (arith, least, c.loop-i-test.true) in
    let in_values : c.loop-i.i < length c.args.values.now = omega (arith, least, c.loop-i-test.true) in
    let value = rw c.as_slice-values.ensures at c.index-values-i.is in
    let json = rw c.as_slice-ids.ensures at c.in_ok-json.ensures in
    let more = parts_more fs c.args.ids.now c.args.values.now c.loop-i.i c.index-values-i.result c.loop-i.list.items
    c.in_ok-json.field-0 in_ids in_values value json in
    rw c.in_ok-push.ensures.items (sym more ∙ c.loop-i.invariant)

pub in_order-returns : goal.in_order-returns
in_order-returns t c =
    let least = rw (c.as_slice-ids.ensures, c.as_slice-values.ensures) at c.min-i-end.ensures in
    parts_done (faces c.args.bound.now.nodes c.args.bound.now.shapes) c.args.ids.now c.args.values.now c.loop-i.i c.loop-i.list.items _
    (λ m n. omega (arith, least, c.loop-i-test.false, m, n)) c.loop-i.invariant

pub items-loop-value-preserved : goal.items-loop-value-preserved
items-loop-value-preserved t c =
    let f = face_at c.args.bound.now.nodes c.args.bound.now.shapes c.args.item in
    let there = rw c.as_slice-value-items.ensures at c.loop-value-test.true in
    let more =
    values_more f c.args.values.now c.loop-value.value-index c.value-item.result c.loop-value.list.items c.in_ok-json.field-0 there
    (rw c.as_slice-value-items.ensures at c.value-item.is) c.in_ok-json.ensures in
    rw c.in_ok-push.ensures.items (sym more ∙ c.loop-value.invariant)

pub items-returns : goal.items-returns
items-returns t c =
    let past = rw c.as_slice-value-items.ensures at c.loop-value-test.false in
    let done = values_done (face_at c.args.bound.now.nodes c.args.bound.now.shapes c.args.item) c.args.values.now
    c.loop-value.value-index c.loop-value.list.items _ (omega (arith, past)) c.loop-value.invariant in
    view-Array c.loop-value.list ∙ ap array done
