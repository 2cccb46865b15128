use Rattle.std.specs.Str.Iter.{chars_rest}
use Rattle.pres.proofs.Passing.{Passing}
use Rattle.pres.proofs.texts.text_after.Given as goal

-- The string of the octets before the index is passed.
abbrev pub invariant-loop-octet : goal.invariant-loop-octet
invariant-loop-octet l = Passing l.octets l.octet-index (chars_rest l.chars) (chars_rest l.rest)
