use Rattle.flick_serve.proofs.Answering.{line_once}
use Rattle.flick_serve.proofs.laws.answers_are_determined.Goals as goal

pub returns : goal.returns
returns c = line_once
