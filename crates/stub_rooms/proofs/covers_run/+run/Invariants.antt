use Rattle.std.proofs.Common.{◌≡◌, ◌+◌, ◌*◌, true, drop}
use Rattle.cast_stub.specs.Block.{cases_seen}
use Rattle.stub_flat.specs.Places.{node_of}
use Rattle.stub_cover.specs.Covers.{suffices}
use Rattle.stub_places.specs.Sets.{set_of}
use Rattle.stub_rooms.specs.CoversLap.{nodes, turn_of}
use Rattle.stub_rooms.proofs.CoversGoing.{RunLeft, WaysRun}
use Rattle.stub_rooms.proofs.TurnsJoined.{Made}
use Rattle.stub_rooms.proofs.covers_run.+run.Given as goal

abbrev pub invariant-run-loop-op : goal.invariant-run-loop-op
invariant-run-loop-op l = RunLeft (nodes l.fn.walk) l.spot l.op-items (drop l.op-index l.op-items) l.fn.rooms l.state

abbrev pub invariant-run_ways-loop-case : goal.invariant-run_ways-loop-case
invariant-run_ways-loop-case l = WaysRun (nodes l.walk) (node_of (nodes l.walk) l.place) (cases_seen l.cases l.last)
    (cases_seen l.case-items l.last) (cases_seen (drop l.case-index l.case-items) l.last) l.rooms l.low

abbrev pub invariant-suffices-loop-r : goal.invariant-suffices-loop-r
invariant-suffices-loop-r l = suffices l.r (turn_of (nodes l.walk) l.lap) l.unit (set_of l.marks) ≡ true

abbrev pub invariant-turns-loop : goal.invariant-turns-loop
invariant-turns-loop l = Made (turn_of (nodes l.walk) l.lap) l.fn.rooms l.counter l.turning

abbrev pub decreases-run : goal.decreases-run
decreases-run l = 9 * l.walk.now.depth

abbrev pub decreases-run_op : goal.decreases-run_op
decreases-run_op l = 9 * l.walk.now.depth + 8

abbrev pub decreases-run_ways : goal.decreases-run_ways
decreases-run_ways l = 9 * l.walk.now.depth + 7

abbrev pub decreases-run_some : goal.decreases-run_some
decreases-run_some l = 9 * l.walk.now.depth + 7

abbrev pub decreases-run_loop : goal.decreases-run_loop
decreases-run_loop l = 9 * l.walk.now.depth + 5

abbrev pub decreases-run_free : goal.decreases-run_free
decreases-run_free l = 9 * l.walk.now.depth + 4

abbrev pub decreases-run_bare : goal.decreases-run_bare
decreases-run_bare l = 9 * l.walk.now.depth + 3

abbrev pub decreases-suffices : goal.decreases-suffices
decreases-suffices l = 9 * l.walk.now.depth + 3

abbrev pub decreases-turns : goal.decreases-turns
decreases-turns l = 9 * l.walk.now.depth + 2

abbrev pub decreases-run_lap : goal.decreases-run_lap
decreases-run_lap l = 9 * l.walk.now.depth + 1

abbrev pub decreases-run_bounded : goal.decreases-run_bounded
decreases-run_bounded l = 9 * l.walk.now.depth + 3

abbrev pub decreases-suffices_at : goal.decreases-suffices_at
decreases-suffices_at l = 9 * l.walk.now.depth + 2
