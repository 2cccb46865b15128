use Rattle.stub_rooms.proofs.RoomsEights.{took_there, took_none}
use Rattle.stub_rooms.proofs.rooms.took.Goals as goal

pub returns-then-all_have : goal.returns-then-all_have
returns-then-all_have c =
    took_there c.args.n c.args.rooms.now _ _ c.all_have.ensures c.if-all_have.true c.lowered.ensures

pub returns-else-all_have : goal.returns-else-all_have
returns-else-all_have c = took_none c.args.n c.args.rooms.now _ c.all_have.ensures c.if-all_have.false
