use Rattle.std.proofs.Common.{◌∙◌}
use Rattle.std.proofs.lemmas.Str.{IsUtf8-from_ascii}
use Rattle.json_shape.proofs.Ascii.{ascii_text}
use Rattle.json_shape.proofs.texts.ascii_of.Goals as goal

pub from_utf8_unchecked-requires : goal.from_utf8_unchecked-requires
from_utf8_unchecked-requires c = IsUtf8-from_ascii c.args.octets.now c.if-not-is_ascii.ensures.cases

pub returns : goal.returns
returns c = c.from_utf8_unchecked.ensures ∙ ascii_text c.args.octets.now c.if-not-is_ascii.ensures.cases
