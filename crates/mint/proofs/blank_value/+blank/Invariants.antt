use Rattle.std.proofs.Common.{◌≡◌, ◌+◌, ◌++◌, map, drop, replicate}
use Rattle.mint.specs.Values.{seen, list_of}
use Rattle.mint.specs.Types.{type_at, unfolded, fields_at}
use Rattle.mint.specs.Blank.{blank, blanks}
use Rattle.mint.proofs.blank_value.+blank.Given as goal

abbrev pub decreases-blank_of : goal.decreases-blank_of
decreases-blank_of l = l.id + l.id + 1

abbrev pub decreases-blanks : goal.decreases-blanks
decreases-blanks l = l.id + l.id

abbrev pub decreases-copies : goal.decreases-copies
decreases-copies l = l.id + l.id

abbrev pub decreases-blank_arm : goal.decreases-blank_arm
decreases-blank_arm l = l.id + l.id

-- the blanks so far, and those of what is left
abbrev pub invariant-blanks-loop-field : goal.invariant-blanks-loop-field
invariant-blanks-loop-field l = map seen l.values ++ list_of (blanks (fields_at (unfolded l.mint) (drop l.field-index l.field-items)))
    ≡ list_of (blanks (fields_at (unfolded l.mint) l.field-items))

abbrev pub invariant-copies-loop : goal.invariant-copies-loop
invariant-copies-loop l = map seen l.values ≡ replicate l.counter (blank (type_at l.mint l.item))
