use Rattle.std.proofs.Common.{◌+◌, ◌*◌, drop}
use Rattle.cast_stub.specs.Block.{cases_seen}
use Rattle.stub_flat.specs.Places.{node_of}
use Rattle.stub_rooms.specs.CoversLap.{nodes, leaves_of}
use Rattle.stub_rooms.proofs.CoversLeading.{Left, WaysLeft, Closing}
use Rattle.stub_rooms.proofs.covers_leaves.+leaves.Given as goal

abbrev pub invariant-leaves-loop-op : goal.invariant-leaves-loop-op
invariant-leaves-loop-op l = Left (nodes l.fn.walk) l.spot l.op-items (drop l.op-index l.op-items) l.fn.marks l.here

abbrev pub invariant-leave_ways-loop-case : goal.invariant-leave_ways-loop-case
invariant-leave_ways-loop-case l = WaysLeft (nodes l.walk) (node_of (nodes l.walk) l.place) (cases_seen l.cases l.last)
    (cases_seen l.case-items l.last) (cases_seen (drop l.case-index l.case-items) l.last) l.marks l.all

abbrev pub invariant-closed-loop : goal.invariant-closed-loop
invariant-closed-loop l = Closing (leaves_of (nodes l.walk) l.lap) l.fn.marks l.all l.laps l.counter

abbrev pub decreases-leaves : goal.decreases-leaves
decreases-leaves l = 8 * l.walk.now.depth

abbrev pub decreases-leave_op : goal.decreases-leave_op
decreases-leave_op l = 8 * l.walk.now.depth + 7

abbrev pub decreases-leave_row : goal.decreases-leave_row
decreases-leave_row l = 8 * l.walk.now.depth + 6

abbrev pub decreases-leave_ways : goal.decreases-leave_ways
decreases-leave_ways l = 8 * l.walk.now.depth + 6

abbrev pub decreases-closed : goal.decreases-closed
decreases-closed l = 8 * l.walk.now.depth + 5

abbrev pub decreases-leave_lap : goal.decreases-leave_lap
decreases-leave_lap l = 8 * l.walk.now.depth + 1
