use Rattle.std.proofs.Common.{subst}
use Rattle.demux.specs.Edges.{IsRising}
use Rattle.demux.proofs.Searched.{rising_set, leads_set, rising_inserted, leads_inserted}
use Rattle.demux.proofs.edges.Edges.add.Goals as goal

-- the word was there, and leads elsewhere
pub invariant_of-self : goal.invariant_of-self
invariant_of-self c = rising_set _ c.self.invariant _ _ (rw c.self.view_is c.in-Ok.ensures.found) _

pub returns-in-Ok : goal.returns-in-Ok
returns-in-Ok c = rw c.self.view_is (leads_set _ (subst IsRising c.self.view_is c.self.invariant) _ _ c.in-Ok.ensures.found _)

-- the word is added in its gap
pub invariant_of-self-in-Err : goal.invariant_of-self-in-Err
invariant_of-self-in-Err c =
    rw (c.in_ok-insert-in-Err.ensures.items, c.leave_room.ensures)
    (rising_inserted _ _ _ (rw c.self.view_is c.in-Err.ensures.absent) _ c.self.invariant)

pub returns-in_ok-insert-in-Err : goal.returns-in_ok-insert-in-Err
returns-in_ok-insert-in-Err c =
    rw (c.in_ok-insert-in-Err.ensures.items, c.leave_room.ensures, c.self.view_is)
    (leads_inserted _ _ _ c.in-Err.ensures.absent _)
