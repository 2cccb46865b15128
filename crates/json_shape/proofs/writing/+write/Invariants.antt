use Rattle.std.proofs.Common.{◌≡◌, ◌≤◌, ◌+◌, drop, [], length}
use Rattle.mint.specs.Values.{all_seen}
use Rattle.pres.specs.Faces.{faces, face_at, parts_at}
use Rattle.serde_json.specs.View.{items_view, members_view}
use Rattle.json_shape.specs.Written.{json_of, items_json, in_order_json, by_name_json}
use Rattle.json_shape.proofs.Items.{after_items}
use Rattle.json_shape.proofs.writing.+write.Given as goal

abbrev pub decreases-json : goal.decreases-json
decreases-json l = l.id + l.id + l.id + 2

abbrev pub decreases-group : goal.decreases-group
decreases-group l = l.id + l.id + l.id + 1

abbrev pub decreases-by_name : goal.decreases-by_name
decreases-by_name l = l.id + l.id + l.id

abbrev pub decreases-in_order : goal.decreases-in_order
decreases-in_order l = l.id + l.id + l.id

abbrev pub decreases-items : goal.decreases-items
decreases-items l = l.id + l.id + l.id

abbrev pub decreases-arm : goal.decreases-arm
decreases-arm l = l.id + l.id + l.id

-- The members are those of the fields from the index on.
abbrev pub invariant-by_name-loop-i : goal.invariant-by_name-loop-i
invariant-by_name-loop-i l = record {
  ids_within : l.i ≤ length l.fn.ids;
  values_within : l.i ≤ length l.fn.values;
  written : members_view l.members.entries ≡ by_name_json
      (parts_at (faces l.bound.nodes l.bound.shapes) (drop l.i l.fn.names) (drop l.i l.fn.ids)) (all_seen (drop l.i l.fn.values));
}

abbrev pub decreases-by_name-loop-i : goal.decreases-by_name-loop-i
decreases-by_name-loop-i l = l.i

-- The items so far, and those of the fields and values that are left, are all.
abbrev pub invariant-in_order-loop-i : goal.invariant-in_order-loop-i
invariant-in_order-loop-i l =
    let fs = faces l.bound.nodes l.bound.shapes in
    after_items (items_view l.list.items) (in_order_json (parts_at fs [] (drop l.i l.fn.ids)) (all_seen (drop l.i l.fn.values))) ≡
    in_order_json (parts_at fs [] l.fn.ids) (all_seen l.fn.values)

abbrev pub invariant-items-loop-value : goal.invariant-items-loop-value
invariant-items-loop-value l =
    let one = json_of (face_at l.bound.nodes l.bound.shapes l.item) in
    after_items (items_view l.list.items) (items_json one (all_seen (drop l.value-index l.fn.values))) ≡ items_json one
    (all_seen l.fn.values)
