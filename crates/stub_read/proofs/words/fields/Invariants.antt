use Rattle.std.proofs.Common.{length, ◌-◌}
use Rattle.stub_read.specs.Words.{point_at, digits_on, most_word, fields_at}
use Rattle.stub_read.proofs.Loops.{Left}
use Rattle.stub_read.proofs.words.fields.Given as goal

abbrev pub invariant-items : goal.invariant-items
invariant-items l = Left point_at (λ u. digits_on most_word 0) (length l.text - l.counter) l.items l.rest (fields_at l.fn.text)
