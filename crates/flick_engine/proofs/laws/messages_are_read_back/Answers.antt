use Rattle.flick_engine.proofs.Back.{read_back}
use Rattle.flick_engine.proofs.laws.messages_are_read_back.Goals as goal

pub returns : goal.returns
returns c = read_back
