use Rattle.std.proofs.lemmas.List.{take_rest}
use Rattle.flick_serve.proofs.given.parts.Goals as goal

pub returns-clause-after : goal.returns-clause-after
returns-clause-after c = take_rest c.args.text.now _
