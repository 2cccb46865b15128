use Rattle.std.proofs.Common.{length, ◌-◌, ◌+◌, ◌*◌}
use Rattle.stub_receiver.proofs.draft.+exchanging.Given as goal

abbrev pub decreases-exchange_part : goal.decreases-exchange_part
decreases-exchange_part l = 2 * (length l.path.now - l.from) + 1

abbrev pub decreases-exchange_in : goal.decreases-exchange_in
decreases-exchange_in l = 2 * (length l.path.now - l.from)
