use Rattle.std.proofs.Common.{◌≡◌, ◌∙◌, sym, subst, List, ℕ, IfOk}
use Rattle.mint.specs.Row.{numbers_of}
use Rattle.raw_buf.proofs.Images.{single_octets}
use Rattle.raw_buf.proofs.view.big_row.Goals as goal

pub returns-then-width-eq1 : goal.returns-then-width-eq1
returns-then-width-eq1 c =
    subst
    (λ (o : List ℕ).
    IfOk c.of_image.result
    (λ r.
    r ≡ record { kind = c.args.kind; numbers = numbers_of c.args.kind o }))
    (sym (single_octets c.args.kind c.args.image.now (sym c.width.ensures ∙ c.if-width-eq1.true))) c.of_image.ensures
