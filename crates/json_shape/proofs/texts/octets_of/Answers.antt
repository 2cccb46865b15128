use Rattle.std.proofs.Common.{Some, sym, ap, ◌∙◌}
use Rattle.json_shape.proofs.Ascii.{ascii_octets}
use Rattle.json_shape.proofs.texts.octets_of.Goals as goal

pub returns-then-is_ascii : goal.returns-then-is_ascii
returns-then-is_ascii c =
    ascii_octets c.args.text.now c.if-is_ascii.ensures.cases ∙ ap Some (sym (c.in_ok-from_slice.ensures ∙ c.as_bytes.ensures.value))
