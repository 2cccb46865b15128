use Rattle.std.proofs.Common.{◌+◌, ◌-◌, map, drop}
use Rattle.mint.specs.Types.{type_at, unfolded, fields_at}
use Rattle.mint.specs.Values.{seen}
use Rattle.case_make.specs.Draws.{several}
use Rattle.case_make.specs.Made.{drawn, drawn_fields}
use Rattle.case_make.proofs.Weighing.{Going}
use Rattle.case_make.proofs.maker.Maker.+value.Given as goal

abbrev pub decreases-value : goal.decreases-value
decreases-value l = l.id + l.id + l.id + 2

abbrev pub decreases-fields : goal.decreases-fields
decreases-fields l = l.id + l.id + l.id

abbrev pub decreases-items : goal.decreases-items
decreases-items l = l.id + l.id + l.id

abbrev pub decreases-choice : goal.decreases-choice
decreases-choice l = l.id + l.id + l.id + 1

abbrev pub decreases-arm : goal.decreases-arm
decreases-arm l = l.id + l.id + l.id

abbrev pub decreases-maybe : goal.decreases-maybe
decreases-maybe l = l.id + l.id + l.id

abbrev pub invariant-fields-loop-field : goal.invariant-fields-loop-field
invariant-fields-loop-field l =
    Going (drawn_fields (fields_at (unfolded l.mint) (drop l.field-index l.field-items)))
    (drawn_fields (fields_at (unfolded l.mint) l.field-items) l.fn.self.state) (map seen l.values) l.fn.self l.self

abbrev pub invariant-items-loop : goal.invariant-items-loop
invariant-items-loop l =
    Going (several (drawn (type_at l.mint l.item)) (l.many - l.counter)) (several (drawn
    (type_at l.mint l.item)) l.many l.fn.self.state) (map seen l.values)
    l.fn.self l.self
