use Rattle.std.proofs.Common.{ℤ, List, option_map, ap, sym, ◌∙◌}
use Rattle.mint.specs.declared.kind.Kind.TheVariants as kind
use Rattle.std.specs.Option.{unwrap_or}
use Rattle.pres.specs.Faces.{ItemList, number}
use Rattle.pres.proofs.Drawn.{sign_by}
use Rattle.pres.proofs.draft.Draft.tag.Goals as goal

pub returns-in-None-clause-sign : goal.returns-in-None-clause-sign
returns-in-None-clause-sign c =
    ap number (c.unwrap_or.ensures ∙ ap (λ z. unwrap_or z kind.U32) c.kind.ensures)
    ∙ sign_by _ (ap (option_map (λ (p : List ℤ × ItemList). p.1)) (sym c.in-None.is) ∙ c.in_ok-parts.ensures.value)
