use Rattle.std.proofs.Common.{sym, ap, ◌∙◌, List, ℕ, bytes_eq}
use Rattle.pres.proofs.Passing.{too_long, plain_name}
use Rattle.pres.proofs.texts.is_text_of.Goals as goal

pub returns-then-octets-text : goal.returns-then-octets-text
returns-then-octets-text c = sym (too_long c.args.octets.now c.args.text.now c.if-octets-text.true)

pub returns-then-is_ascii : goal.returns-then-is_ascii
returns-then-is_ascii c =
    c.eq.ensures ∙ ap (λ (t : List ℕ). bytes_eq c.args.octets.now t) c.as_bytes.ensures.value
    ∙ sym (plain_name c.args.octets.now c.args.text.now c.if-is_ascii.ensures.cases)
