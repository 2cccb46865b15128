use Rattle.std.proofs.Common.{◌≡◌, ◌-◌, ◌+◌, drop, map}
use Rattle.mint.specs.Values.{seen, all_seen}
use Rattle.mint.specs.Types.{type_at, unfolded, fields_at}
use Rattle.wire_def.specs.Grammar.{times, map_got}
use Rattle.wire_def.specs.Reading.{read, read_fields}
use Rattle.mint.proofs.Seen.{joined}
use Rattle.plain_wire.proofs.Reading.{with_prefix}
use Rattle.plain_wire.proofs.read.+read.Given as goal

abbrev pub decreases-value : goal.decreases-value
decreases-value l = l.id + l.id + l.id + 2

abbrev pub decreases-fields : goal.decreases-fields
decreases-fields l = l.id + l.id + l.id

abbrev pub decreases-items : goal.decreases-items
decreases-items l = l.id + l.id + l.id + 1

abbrev pub decreases-each : goal.decreases-each
decreases-each l = l.id + l.id + l.id

abbrev pub decreases-choice : goal.decreases-choice
decreases-choice l = l.id + l.id + l.id

abbrev pub decreases-maybe : goal.decreases-maybe
decreases-maybe l = l.id + l.id + l.id

abbrev pub invariant-fields-loop-field : goal.invariant-fields-loop-field
invariant-fields-loop-field l = map_got (joined (all_seen l.values))
    (read_fields l.enc (fields_at (unfolded l.mint) (drop l.field-index l.field-items)) l.at.place l.at.rest.now)
    ≡ read_fields l.enc (fields_at (unfolded l.mint) l.ids) l.fn.at.place l.fn.at.rest.now

abbrev pub invariant-each-loop-i : goal.invariant-each-loop-i
invariant-each-loop-i l =
    with_prefix (map seen l.values) (times (read l.enc (type_at l.mint l.item)) (l.n - l._i) l.at.place l.at.rest.now)
    ≡ times (read l.enc (type_at l.mint l.item)) l.n l.fn.at.place l.fn.at.rest.now
