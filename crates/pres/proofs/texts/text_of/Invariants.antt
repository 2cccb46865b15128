use Rattle.std.proofs.Common.{◌≡◌, ◌++◌, string_bytes, drop}
use Rattle.pres.specs.Tables.{text_of}
use Rattle.pres.proofs.texts.text_of.Given as goal

-- the string so far, and that of the rest, are all
abbrev pub invariant-loop-octet : goal.invariant-loop-octet
invariant-loop-octet l = string_bytes l.text ++ text_of (drop l.octet-index l.octets) ≡ text_of l.octets
