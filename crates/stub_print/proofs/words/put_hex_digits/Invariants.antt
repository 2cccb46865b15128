use Rattle.std.proofs.Common.{◌≡◌, ◌++◌, drop}
use Rattle.stub_print.specs.Words.{hex}
use Rattle.stub_print.proofs.words.put_hex_digits.Given as goal

-- what is put, and what is left
abbrev pub invariant-loop-octet : goal.invariant-loop-octet
invariant-loop-octet l = l.fn.out ++ hex l.octets ≡ l.out ++ hex (drop l.octet-index l.octets)
