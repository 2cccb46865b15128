use Rattle.std.proofs.Common.{sym, ◌∙◌, ap, arith, get_or, []}
use Rattle.std.proofs.lemmas.Grind.{common_steps}
use Rattle.std.proofs.lemmas.List.{get_or_default}
use Rattle.mint.specs.Values.{all_seen}
use Rattle.mint.specs.declared.node.Node.{Node}
use Rattle.pres.specs.Faces.{faces, face_at, level, parts_at}
use Rattle.serde_json.specs.View.{view}
use Rattle.json_shape.specs.Reading.{value_of}
use Rattle.mint.proofs.Seen.{all_seen-push}
use Rattle.json_shape.proofs.Fields.{count-parts, each_more, each_done, in_order_more, in_order_done, in_order_unlike, by_name_more, by_name_missed, by_name_done}
use Rattle.json_shape.proofs.Lookups.{size-members, object_alike, object_unlike, maybe_many}
use Rattle.json_shape.proofs.reading.+read.Goals as goal

pub each-loop-json-preserved : goal.each-loop-json-preserved
each-loop-json-preserved t c =
    let one = value_of (face_at c.args.bound.now.nodes c.args.bound.now.shapes c.args.item) in
    let more =
    each_more one c.args.list.now c.loop-json.json-index c.json-item.result
    (all_seen c.loop-json.values) c.in_ok-value.field-0 c.loop-json-test.true c.json-item.is c.in_ok-value.ensures in
    rw (c.in_ok-push.ensures.ok, all_seen-push c.loop-json.values c.in_ok-value.field-0) (sym more ∙ c.loop-json.invariant)

pub each-returns : goal.each-returns
each-returns t c =
    each_done (value_of (face_at c.args.bound.now.nodes c.args.bound.now.shapes c.args.item)) c.args.list.now c.loop-json.json-index
    (all_seen c.loop-json.values) _ (omega (arith, c.loop-json-test.false)) c.loop-json.invariant

pub in_order-returns-then-list-len : goal.in_order-returns-then-list-len
in_order-returns-then-list-len t c =
    in_order_unlike (faces c.args.bound.now.nodes c.args.bound.now.shapes) c.args.ids.now c.args.list.now
    (λ e. c.if-list-len.true (e ∙ sym c.len.ensures))

pub in_order-loop-i-preserved : goal.in_order-loop-i-preserved
in_order-loop-i-preserved t c =
    let fs = faces c.args.bound.now.nodes c.args.bound.now.shapes in
    let there = rw c.as_slice-field-items.ensures at c.loop-i-test.true in
    let more =
    in_order_more fs c.args.ids.now c.args.list.now c.loop-i.i c.index-list-i.result
    (all_seen c.loop-i.values) c.in_ok-value.field-0 there (grind (arith, common_steps, there)) c.index-list-i.is
    (rw c.as_slice-field-items.ensures at c.in_ok-value.ensures) in
    rw (c.in_ok-push.ensures.ok, all_seen-push c.loop-i.values c.in_ok-value.field-0) (sym more ∙ c.loop-i.invariant)

pub in_order-returns : goal.in_order-returns
in_order-returns t c =
    let past = rw c.as_slice-field-items.ensures at c.loop-i-test.false in
    in_order_done (faces c.args.bound.now.nodes c.args.bound.now.shapes) c.args.ids.now c.args.list.now c.loop-i.i
    (all_seen c.loop-i.values) _ (omega (arith, past)) (grind (arith, common_steps, past)) c.loop-i.invariant

pub by_name-loop-i-preserved : goal.by_name-loop-i-preserved
by_name-loop-i-preserved t c =
    let fs = faces c.args.bound.now.nodes c.args.bound.now.shapes in
    let there = rw c.as_slice-field-items.ensures at c.loop-i-test.true in
    let more =
    by_name_more fs c.args.names.now c.args.ids.now c.loop-i.i (get_or c.args.names.now c.loop-i.i []) (view c.args.json.now)
    (view c.in-Some.part.now)
    (all_seen c.loop-i.values) c.in_ok-value.field-0 (omega (arith, there, c.requires.named)) there
    (get_or_default c.args.names.now c.loop-i.i [] _ (omega (arith, there, c.requires.named))) (sym c.in-Some.ensures)
    (rw c.as_slice-field-items.ensures at c.in_ok-value.ensures) in
    rw (c.in_ok-push.ensures.ok, all_seen-push c.loop-i.values c.in_ok-value.field-0) (sym more ∙ c.loop-i.invariant)

pub by_name-returns-in_default : goal.by_name-returns-in_default
by_name-returns-in_default t c =
    let there = rw c.as_slice-field-items.ensures at c.loop-i-test.true in
    by_name_missed (faces c.args.bound.now.nodes c.args.bound.now.shapes) c.args.names.now c.args.ids.now c.loop-i.i
    (get_or c.args.names.now c.loop-i.i [])
    (view c.args.json.now) (all_seen c.loop-i.values) _ (omega (arith, there, c.requires.named)) there
    (get_or_default c.args.names.now c.loop-i.i [] _ (omega (arith, there, c.requires.named))) (sym c.in_default.ensures) c.loop-i.invariant

pub by_name-returns : goal.by_name-returns
by_name-returns t c =
    let past = rw c.as_slice-field-items.ensures at c.loop-i-test.false in
    by_name_done (faces c.args.bound.now.nodes c.args.bound.now.shapes) c.args.names.now c.args.ids.now c.loop-i.i _
    (all_seen c.loop-i.values) _ (omega (arith, past)) c.loop-i.invariant

pub members-returns-then-len : goal.members-returns-then-len
members-returns-then-len t c =
    let ps = parts_at (faces c.args.bound.now.nodes c.args.bound.now.shapes) c.args.names.now c.args.ids.now in
    object_unlike ps _ _ c.in-Some.ensures (λ e. c.if-len.true
    (grind (
      arith,
      common_steps,
      e,
      size-members c.in-Some.object.now.entries,
      count-parts
          (faces c.args.bound.now.nodes c.args.bound.now.shapes) c.args.names.now c.args.ids.now,
    )))

pub members-returns : goal.members-returns
members-returns t c =
    let fs = faces c.args.bound.now.nodes c.args.bound.now.shapes in
    let ps = parts_at fs c.args.names.now c.args.ids.now in
    let alike =
    object_alike ps _ (view c.args.json.now) c.in-Some.ensures
    (grind (arith, common_steps, size-members c.in-Some.object.now.entries, count-parts fs c.args.names.now c.args.ids.now)) in
    rw alike c.by_name.ensures

pub maybe-returns-in_default-as_slice : goal.maybe-returns-in_default-as_slice
maybe-returns-in_default-as_slice t c =
    maybe_many _ c.as_slice.result.now _ (rw c.as_slice.ensures.value c.in-Some.ensures) c.in_default-as_slice.len_at_least

pub value-returns-in-Choice : goal.value-returns-in-Choice
value-returns-in-Choice t c =
    rw (c.in-Some.ensures.is
    ∙ ap (λ (n : Node). level (faces c.args.bound.now.nodes c.args.bound.now.shapes) n c.in-Some.shape.now) c.in-Choice.is) c.choice.ensures
