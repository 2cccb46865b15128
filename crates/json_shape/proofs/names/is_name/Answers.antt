use Rattle.std.proofs.Common.{sym, ap, ◌∙◌, List, ℕ, bytes_eq}
use Rattle.json_shape.proofs.Plain.{plain_text}
use Rattle.json_shape.proofs.names.is_name.Goals as goal

pub returns-then-plain : goal.returns-then-plain
returns-then-plain c =
    c.eq.ensures ∙ ap (λ (t : List ℕ). bytes_eq c.args.name.now t) c.as_bytes.ensures.value
    ∙ sym (plain_text c.args.name.now c.args.text.now (c.requires c.if-plain.true))
