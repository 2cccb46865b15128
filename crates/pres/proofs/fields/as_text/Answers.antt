use Rattle.std.proofs.Common.{◌∙◌, sym}
use Rattle.std.proofs.lemmas.Str.{IsUtf8-from_ascii, encodes-IsAscii}
use Rattle.pres.proofs.fields.as_text.Goals as goal

pub from_utf8_unchecked-requires : goal.from_utf8_unchecked-requires
from_utf8_unchecked-requires c = IsUtf8-from_ascii c.args.octets.now c.requires

pub returns : goal.returns
returns c = c.from_utf8_unchecked.ensures ∙ sym (encodes-IsAscii c.args.octets.now c.requires)
