use Rattle.std.proofs.Common.{◌≡◌, ◌≤◌, ◌+◌, length}
use Rattle.json.specs.Tree.{json_tokens}
use Rattle.mint.specs.Values.{seen}
use Rattle.pres.specs.Faces.{faces, face_at}
use Rattle.json_shape.specs.Reading.{value_of}
use Rattle.json_shape.proofs.UsualReading.{ItemRead, MemberRead, PartRead, Taken, member_tokens}
use Rattle.json_shape.proofs.usual.+read_direct.Given as goal

abbrev pub decreases-read_direct : goal.decreases-read_direct
decreases-read_direct l = l.id + l.id + l.id + l.id + 4

abbrev pub decreases-group : goal.decreases-group
decreases-group l = l.id + l.id + l.id + l.id + 3

abbrev pub decreases-named : goal.decreases-named
decreases-named l = l.id + l.id + l.id + l.id + 2

abbrev pub decreases-unnamed : goal.decreases-unnamed
decreases-unnamed l = l.id + l.id + l.id + l.id + 2

abbrev pub decreases-items : goal.decreases-items
decreases-items l = l.id + l.id + l.id + l.id + 2

abbrev pub decreases-choice : goal.decreases-choice
decreases-choice l = l.id + l.id + l.id + l.id + 2

abbrev pub decreases-maybe : goal.decreases-maybe
decreases-maybe l = l.id + l.id + l.id + l.id + 2

abbrev pub decreases-fields : goal.decreases-fields
decreases-fields l = l.id + l.id + l.id + l.id + 1

abbrev pub decreases-parts : goal.decreases-parts
decreases-parts l = l.id + l.id + l.id + l.id + 1

abbrev pub decreases-each : goal.decreases-each
decreases-each l = l.id + l.id + l.id + l.id + 1

abbrev pub decreases-arm : goal.decreases-arm
decreases-arm l = l.id + l.id + l.id + l.id + 1

-- The values so far are those of the members that were taken.
abbrev pub invariant-fields-loop-i : goal.invariant-fields-loop-i
invariant-fields-loop-i l = record {
  many : length l.values ≡ l.i;
  most : l.i ≤ length l.ids;
  taken : Taken member_tokens (MemberRead l.depth (faces l.bound.nodes l.bound.shapes) l.names l.ids) l.initial.reader l.reader l.values;
}

-- The values so far are those of the items that were taken.
abbrev pub invariant-parts-loop-i : goal.invariant-parts-loop-i
invariant-parts-loop-i l = record {
  many : length l.values ≡ l._i;
  most : l._i ≤ length l.ids;
  taken : Taken json_tokens (PartRead l.depth (faces l.bound.nodes l.bound.shapes) l.ids) l.initial.reader l.reader l.values;
}

-- The values so far are those of the items that were taken.
abbrev pub invariant-each-loop-alloc : goal.invariant-each-loop-alloc
invariant-each-loop-alloc l =
    Taken json_tokens (ItemRead l.depth (value_of (face_at l.bound.nodes l.bound.shapes l.item)) seen) l.initial.reader l.reader l.values

abbrev pub decreases-each-loop-alloc : goal.decreases-each-loop-alloc
decreases-each-loop-alloc l = length l.reader
