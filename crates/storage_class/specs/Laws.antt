-- What a span says of what is sent.
use Rattle.std.specs.Prelude.{ℕ, length}
use Rattle.mint.specs.Values.{Val}
use Rattle.mint.specs.Types.{Ty}
use Rattle.mint.specs.Typed.{IsOf}
use Rattle.wire_def.specs.declared.encoding.Encoding.{Encoding}
use Rattle.wire_def.specs.Send.{send}
use Rattle.storage_class.specs.Classing.{HasLength}
use Rattle.storage_class.specs.Spans.{span}

-- what is sent of a value of the type, from any position, has a length that the span allows
abbrev pub SentWithinSpan : Encoding → Type 0
SentWithinSpan e = (t : Ty) (p : ℕ) (v : Val) → IsOf t v → HasLength (span e t) p (length (send e t p v))
