use Rattle.std.proofs.Common.{◌≡◌, drop, map}
use Rattle.cast_stub.specs.Block.{code_seen}
use Rattle.stub_cover.specs.Covers.{list_runs}
use Rattle.stub_rooms.specs.CoversLap.{nodes}
use Rattle.stub_rooms.proofs.covers.are_run.Given as goal

abbrev pub invariant-loop-i : goal.invariant-loop-i
invariant-loop-i l = list_runs (nodes l.walk) (map code_seen l.codes) l.spots
    ≡ list_runs (nodes l.walk) (map code_seen (drop l.i l.codes)) (drop l.i l.spots)
