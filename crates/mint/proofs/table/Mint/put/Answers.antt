use Rattle.std.proofs.lemmas.List.{map-append}
use Rattle.mint.proofs.Measuring.{measured-push}
use Rattle.mint.proofs.table.Mint.put.Goals as goal

pub invariant_of-self-2 : goal.invariant_of-self-2
invariant_of-self-2 c =
    rw (c.in_ok-push.ensures.items, map-append, map-append)
    (measured-push _ _ _ _ c.self.invariant (rw c.self.view_is c.requires.taken) (rw c.self.view_is c.requires.size))
