use Rattle.std.proofs.lemmas.List.{map-append}
use Rattle.pres.proofs.Drafting.{sketch_push, grown, pushed, drawn-length}
use Rattle.pres.proofs.draft.Draft.put.Goals as goal

pub invariant_of-self-2 : goal.invariant_of-self-2
invariant_of-self-2 c =
    rw (c.in_ok-push.ensures.items, map-append, map-append)
    (sketch_push _ _ _ c.self.invariant (rw (← drawn-length _ c.self.invariant, c.self.view_is) c.requires.room)
    (rw c.self.view_is c.requires.below) c.requires.named)

pub returns-clause-grows : goal.returns-clause-grows
returns-clause-grows c = rw (← c.self.view_is, c.in_ok-push.ensures.items, map-append, map-append) (grown _ _ _ c.self.invariant)

pub returns-clause-id : goal.returns-clause-id
returns-clause-id c = rw (← c.self.view_is, c.in_ok-push.ensures.items, map-append, map-append)
    (pushed _ _ _ _ c.self.invariant (drawn-length _ c.self.invariant))
