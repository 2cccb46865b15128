use Rattle.std.proofs.Common.{length, ◌-◌}
use Rattle.std.proofs.Common.{◌+◌, ◌*◌}
use Rattle.stub_read.specs.Reading.{mapped}
use Rattle.stub_read.specs.Words.{hex_digit_at, octets_at}
use Rattle.stub_read.proofs.Loops.{Left}
use Rattle.stub_read.proofs.words.octets.Given as goal

abbrev pub invariant-items : goal.invariant-items
invariant-items l = Left hex_digit_at (λ a. mapped (λ b. 16 * a + b) hex_digit_at) (length l.text - l.counter) l.items l.rest
    (octets_at l.fn.text)
