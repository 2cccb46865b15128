use Rattle.flick_lines.proofs.Existing.{all_fit, text_has}
use Rattle.flick_lines.proofs.laws.lines_are_answered.Goals as goal

pub returns : goal.returns
returns c =
    text_has c.args.engine.now
    (all_fit c.args.engine.now.binding
    (rw (c.mint.ensures, c.bound.ensures.value) at c.types_are_sound.ensures))
