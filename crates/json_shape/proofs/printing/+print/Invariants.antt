use Rattle.std.proofs.Common.{◌+◌, drop, []}
use Rattle.mint.specs.Values.{all_seen}
use Rattle.pres.specs.Faces.{faces, face_at, parts_at, members}
use Rattle.serde_json.specs.Data.{array, object}
use Rattle.json_shape.specs.Printed.{members_at, tokens_of, tokens_of_items, tokens_of_members}
use Rattle.json_shape.specs.Written.{json_of, items_json, in_order_json}
use Rattle.json_shape.proofs.Adding.{Leaves}
use Rattle.json_shape.proofs.FieldPlaces.{trees_at}
use Rattle.json_shape.proofs.printing.+print.Given as goal

abbrev pub decreases-print : goal.decreases-print
decreases-print l = l.id + l.id + l.id + l.id + 3

abbrev pub decreases-alone : goal.decreases-alone
decreases-alone l = l.id + l.id + l.id + l.id

abbrev pub decreases-group : goal.decreases-group
decreases-group l = l.id + l.id + l.id + l.id + 2

abbrev pub decreases-named : goal.decreases-named
decreases-named l = l.id + l.id + l.id + l.id + 1

abbrev pub decreases-by_name : goal.decreases-by_name
decreases-by_name l = l.id + l.id + l.id + l.id

abbrev pub decreases-in_order : goal.decreases-in_order
decreases-in_order l = l.id + l.id + l.id + l.id

abbrev pub decreases-items : goal.decreases-items
decreases-items l = l.id + l.id + l.id + l.id + 1

abbrev pub decreases-each : goal.decreases-each
decreases-each l = l.id + l.id + l.id + l.id

abbrev pub decreases-structs : goal.decreases-structs
decreases-structs l = l.id + l.id + l.id + l.id + 2

abbrev pub decreases-choice : goal.decreases-choice
decreases-choice l = l.id + l.id + l.id + l.id + 1

abbrev pub decreases-arm : goal.decreases-arm
decreases-arm l = l.id + l.id + l.id + l.id

-- What is written, and the fields that are left, are all.
abbrev pub invariant-by_name-loop-i : goal.invariant-by_name-loop-i
invariant-by_name-loop-i l =
    let tree = trees_at (faces l.bound.nodes l.bound.shapes) l.fn.ids l.fn.values in
    Leaves l.fn.out l.out (tokens_of_members (members_at l.fn.names tree (drop l.i-index l.order)))
    (tokens_of (object (members_at l.fn.names tree l.order)))

-- What is written, and the parts that are left, are all.
abbrev pub invariant-in_order-loop-i : goal.invariant-in_order-loop-i
invariant-in_order-loop-i l =
    let fs = faces l.bound.nodes l.bound.shapes in
    Leaves l.fn.out l.out
    (tokens_of_items (in_order_json (parts_at fs [] (drop l.i l.fn.ids)) (all_seen (drop l.i l.fn.values))))
    (tokens_of (array (in_order_json (parts_at fs [] l.fn.ids) (all_seen l.fn.values))))

-- What is written, and the items that are left, are all.
abbrev pub invariant-each-loop-value : goal.invariant-each-loop-value
invariant-each-loop-value l =
    let one = json_of (face_at l.bound.nodes l.bound.shapes l.item) in
    Leaves l.fn.out l.out (tokens_of_items (items_json one (all_seen (drop l.value-index l.fn.values))))
    (tokens_of (array (items_json one (all_seen l.fn.values))))

-- What is written, and the structs that are left, are all.
abbrev pub invariant-structs-loop-value : goal.invariant-structs-loop-value
invariant-structs-loop-value l =
    let one = json_of (members (parts_at (faces l.bound.nodes l.bound.shapes) l.names l.ids)) in
    Leaves l.fn.out l.out (tokens_of_items (items_json one (all_seen (drop l.value-index l.fn.values))))
    (tokens_of (array (items_json one (all_seen l.fn.values))))
