use Rattle.std.proofs.Common.{length, ◌-◌}
use Rattle.idl_read.specs.Reading.{begins_with, mark_is, mark_at, after, joined_at}
use Rattle.idl_read.proofs.Loops.{Left}
use Rattle.idl_read.proofs.nested.joined_nested.Given as goal

abbrev pub invariant-items : goal.invariant-items
invariant-items g l =
    let within = g.T.Nested.within in
    Left (begins_with (mark_is l.between)) (after (mark_at l.between) (within l.levels)) (length l.initial.rest - l.counter)
    l.items l.rest (joined_at l.between (within l.levels) l.fn.tokens)
