use Rattle.stub_rooms.proofs.CoversLoops.{row_is, row_none}
use Rattle.stub_rooms.proofs.covers_standing.row_loop.Goals as goal

pub returns-in-Some : goal.returns-in-Some
returns-in-Some c = λ N R. row_is _ _ _ _ c.in-Some.width R c.in-Some.is c.greatest_at.ensures

pub returns-in-None : goal.returns-in-None
returns-in-None c = λ N R. row_none _ _ _ R c.in-None.is
