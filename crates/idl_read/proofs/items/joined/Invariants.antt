use Rattle.std.proofs.Common.{length, ◌-◌}
use Rattle.idl_read.specs.Reading.{begins_with, mark_is, mark_at, after, joined_at}
use Rattle.idl_read.proofs.Loops.{Left}
use Rattle.idl_read.proofs.items.joined.Given as goal

abbrev pub invariant-items : goal.invariant-items
invariant-items g l =
    let at = g.T.Production.at in
    Left (begins_with (mark_is l.between)) (after (mark_at l.between) at) (length l.initial.rest - l.counter) l.items l.rest
    (joined_at l.between at l.fn.tokens)
