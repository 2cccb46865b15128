use Rattle.stub_rooms.proofs.turns.turn_on.Goals as goal

pub returns-then-same : goal.returns-then-same
returns-then-same c = record { low = c.back_again.ensures; back = c.is_same-same.ensures c.if-same.true }

pub returns : goal.returns
returns c = c.farther.ensures
