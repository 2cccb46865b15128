use Rattle.kit_digits.proofs.Letters.{digits_utf8}
use Rattle.kit_digits.proofs.writing.encode.Goals as goal

pub from_utf8_unchecked-requires : goal.from_utf8_unchecked-requires
from_utf8_unchecked-requires c = rw c.in_ok-digits.ensures (digits_utf8 c.args.octets.now)
