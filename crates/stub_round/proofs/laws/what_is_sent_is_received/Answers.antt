use Rattle.stub_round.proofs.Returning.{returned}
use Rattle.stub_round.proofs.laws.what_is_sent_is_received.Goals as goal

pub returns : goal.returns
returns c = returned
