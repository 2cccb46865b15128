use Rattle.std.proofs.Common.{length, ◌-◌, ◌+◌, ◌*◌}
use Rattle.stub_receiver.proofs.takes.+putting.Given as goal

abbrev pub decreases-put_word : goal.decreases-put_word
decreases-put_word l = 2 * (length l.path.now - l.from) + 1

abbrev pub decreases-put_in : goal.decreases-put_in
decreases-put_in l = 2 * (length l.path.now - l.from)
