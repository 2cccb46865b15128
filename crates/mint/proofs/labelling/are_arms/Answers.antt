use Rattle.std.proofs.Common.{◌∙◌, ap, sym, not, true, false}
use Rattle.mint.proofs.Measuring.{are_arms_is}
use Rattle.mint.proofs.labelling.are_arms.Goals as goal

pub returns-then-are_tagged : goal.returns-then-are_tagged
returns-then-are_tagged c =
    λ ts. ap not (c.is_armless.ensures ts) ∙ sym (are_arms_is _ ts _ _ _ true c.as_slice.ensures c.if-are_tagged.ensures)

pub returns-else-are_tagged : goal.returns-else-are_tagged
returns-else-are_tagged c =
    λ ts. c.if-are_tagged.false ∙ sym (are_arms_is _ ts _ _ c.args.other false c.as_slice.ensures c.if-are_tagged.ensures)
