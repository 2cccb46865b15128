use Rattle.std.proofs.Common.{◌≡◌, drop}
use Rattle.serde_json.specs.Data.{item}
use Rattle.serde_json.specs.View.{view, items_view}
use Rattle.json_shape.proofs.Items.{after_items}
use Rattle.json_shape.proofs.replies.joined.Given as goal

-- The items so far, and those that are left, are all.
abbrev pub invariant-loop-other : goal.invariant-loop-other
invariant-loop-other l =
    after_items (items_view l.list.items) (items_view (drop l.other-index l.others)) ≡ item (view l.fn.first) (items_view l.others)
