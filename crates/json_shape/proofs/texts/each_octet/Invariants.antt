use Rattle.std.specs.Str.Iter.{chars_rest}
use Rattle.json_shape.proofs.Letters.{Left}
use Rattle.json_shape.proofs.texts.each_octet.Given as goal

-- The octets so far, and those of the rest, are all.
abbrev pub invariant-loop-c : goal.invariant-loop-c
invariant-loop-c l = Left l.octets (chars_rest l.c-iterator) l.text
