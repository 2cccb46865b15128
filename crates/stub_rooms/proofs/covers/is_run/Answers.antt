use Rattle.std.proofs.Common.{◌∙◌, Some, None}
use Rattle.cast_stub.specs.Block.{code_seen}
use Rattle.stub_cover.specs.Rooms.{only_room}
use Rattle.stub_cover.specs.Covers.{run}
use Rattle.stub_rooms.specs.CoversLap.{nodes}
use Rattle.stub_rooms.proofs.CoversGoing.{some_shown}
use Rattle.stub_rooms.proofs.covers.is_run.Goals as goal

pub returns : goal.returns
returns c =
    c.is_some.ensures
    ∙ some_shown (run (nodes c.args.walk.now) (Some c.args.id) (code_seen c.args.ops.now) None) (only_room 0 0) _ _
    c.only_room-start.ensures c.in_ok-end.ensures
