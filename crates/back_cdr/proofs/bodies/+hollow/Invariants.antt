use Rattle.std.proofs.Common.{◌≡◌, ◌+◌, drop}
use Rattle.mint.specs.Types.{unfolded, fields_at}
use Rattle.wire_def.specs.Hollow.{are_hollow}
use Rattle.back_cdr.proofs.bodies.+hollow.Given as goal

abbrev pub decreases-is_hollow : goal.decreases-is_hollow
decreases-is_hollow l = l.id + l.id + 1

abbrev pub decreases-are_hollow : goal.decreases-are_hollow
decreases-are_hollow l = l.id + l.id

-- all fields have no octets where those that are left have none
abbrev pub invariant-are_hollow-loop-field : goal.invariant-are_hollow-loop-field
invariant-are_hollow-loop-field l = are_hollow (fields_at (unfolded l.mint) l.field-items)
    ≡ are_hollow (fields_at (unfolded l.mint) (drop l.field-index l.field-items))
