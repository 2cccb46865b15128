use Rattle.std.proofs.Common.{length, ◌-◌, codes}
use Rattle.stub_read.specs.Reading.{word_at}
use Rattle.stub_read.specs.Stubs.{sub_at, subs_at}
use Rattle.stub_read.proofs.Loops.{Left}
use Rattle.stub_read.proofs.stub.subs.Given as goal

abbrev pub invariant-items : goal.invariant-items
invariant-items l = Left (word_at (codes "sub ")) (λ u. sub_at) (length l.text - l.counter) l.items l.rest (subs_at l.fn.text)
