use Rattle.std.proofs.Common.{length, ◌-◌, codes}
use Rattle.stub_read.specs.Reading.{word_at}
use Rattle.stub_read.specs.Operations.{put_at, bare_puts_at}
use Rattle.stub_read.proofs.Loops.{Left}
use Rattle.stub_read.proofs.puts.bare_puts.Given as goal

abbrev pub invariant-items : goal.invariant-items
invariant-items l = Left (word_at (codes "at ")) (λ u. put_at) (length l.text - l.counter) l.items l.rest (bare_puts_at l.fn.text)
