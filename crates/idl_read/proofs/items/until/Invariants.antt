use Rattle.std.proofs.Common.{length, ◌-◌}
use Rattle.idl_read.specs.Reading.{begins_other, mark_is, until_at}
use Rattle.idl_read.proofs.Loops.{Left}
use Rattle.idl_read.proofs.items.until.Given as goal

abbrev pub invariant-items : goal.invariant-items
invariant-items g l =
    let at = g.T.Production.at in
    Left (begins_other (mark_is l.close)) at (length l.tokens - l.counter) l.items l.rest (until_at l.close at l.fn.tokens)
