use Rattle.std.proofs.Common.{◌↔◌, ◌+◌, drop}
use Rattle.mint.specs.Values.{all_seen}
use Rattle.mint.specs.Types.{type_at, unfolded, fields_at}
use Rattle.mint.specs.Typed.{IsOf, AreOf, Each}
use Rattle.mint.proofs.fits.+is_of.Given as goal

abbrev pub decreases-is_of : goal.decreases-is_of
decreases-is_of l = l.id + l.id + 1

abbrev pub decreases-are_of : goal.decreases-are_of
decreases-are_of l = l.id + l.id

abbrev pub decreases-each_is_of : goal.decreases-each_is_of
decreases-each_is_of l = l.id + l.id

abbrev pub decreases-is_of_arm : goal.decreases-is_of_arm
decreases-is_of_arm l = l.id + l.id

-- all fits exactly where what is left fits
abbrev pub invariant-are_of-loop-i : goal.invariant-are_of-loop-i
invariant-are_of-loop-i l = AreOf (fields_at (unfolded l.mint) l.ids) (all_seen l.values)
    ↔ AreOf (fields_at (unfolded l.mint) (drop l.i l.ids)) (all_seen (drop l.i l.values))

abbrev pub invariant-each_is_of-loop-value : goal.invariant-each_is_of-loop-value
invariant-each_is_of-loop-value l = Each (IsOf (type_at l.mint l.item)) (all_seen l.values)
    ↔ Each (IsOf (type_at l.mint l.item)) (all_seen (drop l.value-index l.value-items))
