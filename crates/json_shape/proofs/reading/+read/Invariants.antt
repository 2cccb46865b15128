use Rattle.std.proofs.Common.{◌≡◌, ◌+◌, drop, []}
use Rattle.std.specs.Prelude.{option_map}
use Rattle.mint.specs.Values.{all_seen}
use Rattle.pres.specs.Faces.{faces, face_at, parts_at}
use Rattle.serde_json.specs.View.{view, items_view}
use Rattle.json_shape.specs.Presents.{members_in}
use Rattle.json_shape.specs.Reading.{value_of, each, in_order, by_name}
use Rattle.mint.proofs.Seen.{joined}
use Rattle.json_shape.proofs.reading.+read.Given as goal

abbrev pub decreases-value : goal.decreases-value
decreases-value l = l.id + l.id + l.id + l.id + 4

abbrev pub decreases-group : goal.decreases-group
decreases-group l = l.id + l.id + l.id + l.id + 3

abbrev pub decreases-members : goal.decreases-members
decreases-members l = l.id + l.id + l.id + l.id + 2

abbrev pub decreases-by_name : goal.decreases-by_name
decreases-by_name l = l.id + l.id + l.id + l.id + 1

abbrev pub decreases-arguments : goal.decreases-arguments
decreases-arguments l = l.id + l.id + l.id + l.id + 2

abbrev pub decreases-in_order : goal.decreases-in_order
decreases-in_order l = l.id + l.id + l.id + l.id + 1

abbrev pub decreases-items : goal.decreases-items
decreases-items l = l.id + l.id + l.id + l.id + 2

abbrev pub decreases-each : goal.decreases-each
decreases-each l = l.id + l.id + l.id + l.id + 1

abbrev pub decreases-maybe : goal.decreases-maybe
decreases-maybe l = l.id + l.id + l.id + l.id + 1

abbrev pub decreases-choice : goal.decreases-choice
decreases-choice l = l.id + l.id + l.id + l.id + 2

abbrev pub decreases-arm : goal.decreases-arm
decreases-arm l = l.id + l.id + l.id + l.id + 1

-- The values so far, and those of the fields and trees that are left, are all.
abbrev pub invariant-by_name-loop-i : goal.invariant-by_name-loop-i
invariant-by_name-loop-i l =
    let fs = faces l.bound.nodes l.bound.shapes in
    option_map (joined (all_seen l.values)) (by_name (parts_at fs (drop l.i l.fn.names) (drop l.i l.fn.ids)) (members_in (view l.fn.json)))
    ≡ by_name (parts_at fs l.fn.names l.fn.ids) (members_in (view l.fn.json))

abbrev pub invariant-in_order-loop-i : goal.invariant-in_order-loop-i
invariant-in_order-loop-i l =
    let fs = faces l.bound.nodes l.bound.shapes in
    option_map (joined (all_seen l.values)) (in_order (parts_at fs [] (drop l.i l.fn.ids)) (items_view (drop l.i l.fn.list))) ≡ in_order
    (parts_at fs [] l.fn.ids) (items_view l.fn.list)

abbrev pub invariant-each-loop-json : goal.invariant-each-loop-json
invariant-each-loop-json l =
    let one = value_of (face_at l.bound.nodes l.bound.shapes l.item) in
    option_map (joined (all_seen l.values)) (each one (items_view (drop l.json-index l.list))) ≡ each one (items_view l.list)
