use Rattle.std.proofs.Common.{sym, ap, ◌∙◌, List, ℕ, bytes_eq, ltb-true}
use Rattle.pres.proofs.Passing.{too_long, plain_turned}
use Rattle.pres.proofs.texts.is_full_text_of.Goals as goal

pub returns-then-is_longer : goal.returns-then-is_longer
returns-then-is_longer c =
    sym (too_long c.args.name.now c.args.text.now (ltb-true _ _ (sym c.is_longer.ensures ∙ c.if-is_longer.true)))

pub returns-then-is_ascii : goal.returns-then-is_ascii
returns-then-is_ascii c =
    c.is.ensures ∙ ap (λ (t : List ℕ). bytes_eq t c.args.name.now) c.as_bytes.ensures.value
    ∙ plain_turned c.args.name.now c.args.text.now (c.is_ascii.ensures c.if-is_ascii.true)
