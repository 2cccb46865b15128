use Rattle.std.proofs.Common.{◌≡◌, drop}
use Rattle.serde_json.specs.View.{items_view}
use Rattle.json_shape.specs.Written.{each_json}
use Rattle.json_shape.proofs.Items.{after_items}
use Rattle.json_shape.proofs.numbers.numbers.Given as goal

-- The items so far, and those of the numbers that are left, are all.
abbrev pub invariant-loop-i : goal.invariant-loop-i
invariant-loop-i l = after_items (items_view l.list.items) (each_json l.kind (drop l.i l.row.numbers)) ≡ each_json l.kind l.row.numbers
