use Rattle.flick_lines.proofs.Existing.{all_fit}
use Rattle.flick_serve.specs.Served.{Serving}
use Rattle.flick_serve.proofs.Answering.{lines_served}
use Rattle.flick_serve.proofs.serving.Server.lines_are_answered.Goals as goal

pub returns : goal.returns
returns c =
    let t : Serving = record { coded = c.self.inside.engine; text = c.self.inside.text } in
    lines_served c.args.self.now t c.self.inside.replies c.self.view_is c.self.invariant
    (all_fit t.coded.binding (rw (c.mint.ensures, c.bound.ensures.value) at c.types_are_sound.ensures))
