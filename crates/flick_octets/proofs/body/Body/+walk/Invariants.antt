use Rattle.std.proofs.Common.{◌+◌}
use Rattle.flick_octets.proofs.body.Body.+walk.Given as goal

abbrev pub decreases-tell : goal.decreases-tell
decreases-tell l = l.levels + l.levels + l.levels + 2

abbrev pub decreases-tell_fields : goal.decreases-tell_fields
decreases-tell_fields l = l.levels + l.levels + l.levels + 1

abbrev pub decreases-tell_items : goal.decreases-tell_items
decreases-tell_items l = l.levels + l.levels + l.levels + 1

abbrev pub decreases-tell_arm : goal.decreases-tell_arm
decreases-tell_arm l = l.levels + l.levels + l.levels + 1

abbrev pub decreases-tell_optional : goal.decreases-tell_optional
decreases-tell_optional l = l.levels + l.levels + l.levels + 1

abbrev pub decreases-tell_part : goal.decreases-tell_part
decreases-tell_part l = l.levels + l.levels + l.levels
