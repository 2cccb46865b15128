use Rattle.stub_rooms.specs.CoversLap.{nodes, leaves_of}
use Rattle.stub_rooms.proofs.CoversGoing.{reach_shown}
use Rattle.stub_rooms.proofs.covers_leaves.reach.Goals as goal

pub returns : goal.returns
returns c = reach_shown (leaves_of (nodes c.args.walk.now) c.args.lap) c.args.rooms.now _ _ c.reached.ensures c.closed.ensures
