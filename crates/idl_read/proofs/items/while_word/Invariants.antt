use Rattle.std.proofs.Common.{length, ◌-◌}
use Rattle.idl_read.specs.Reading.{begins_with, word_is, while_at}
use Rattle.idl_read.proofs.Loops.{Left}
use Rattle.idl_read.proofs.items.while_word.Given as goal

abbrev pub invariant-items : goal.invariant-items
invariant-items g l =
    let at = g.T.Production.at in
    Left (begins_with (word_is l.word)) at (length l.tokens - l.counter) l.items l.rest (while_at l.word at l.fn.tokens)
