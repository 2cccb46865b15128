use Rattle.std.proofs.Common.{◌≡◌, take}
use Rattle.std.specs.List.{list_all}
use Rattle.hex.specs.Hex.{is_hex_digit}
use Rattle.kit_digits.proofs.reading.are_digits.Given as goal

-- The octets before the index are digits, or one is not.
abbrev pub invariant-loop-i : goal.invariant-loop-i
invariant-loop-i l = l.all ≡ list_all is_hex_digit (take l.i l.octets)
