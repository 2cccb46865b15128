use Rattle.std.proofs.Common.{sym, ◌∙◌}
use Rattle.pres.proofs.Passing.{rest_decides, other_front}
use Rattle.pres.proofs.texts.is_text_of_pieces.Goals as goal

pub returns-in-Some : goal.returns-in-Some
returns-in-Some c =
    c.is_rest_of.ensures
    ∙ rest_decides c.args.name.now _ _ c.args.text.now _ c.parts.ensures (sym c.chars.ensures.rest ∙ c.in-Some.ensures.some.1)

pub returns-in-None : goal.returns-in-None
returns-in-None c =
    sym (other_front c.args.name.now _ _ c.args.text.now c.parts.ensures (λ more e. c.in-None.ensures.none more (c.chars.ensures.rest ∙ e)))
