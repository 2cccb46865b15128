use Rattle.std.proofs.lemmas.List.{take_rest}
use Rattle.flick_lines.proofs.unreplied.parts.Goals as goal

pub returns-clause-after : goal.returns-clause-after
returns-clause-after c = take_rest c.args.line.now _
