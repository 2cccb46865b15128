use Rattle.std.proofs.Common.{◌≡◌, ◌++◌, ℕ, length}
use Rattle.hex.specs.Hex.{encode_lower}
use Rattle.kit_digits.proofs.putting.put.Given as goal

-- What is there, and then the digits of what is left, is what was there, and then all digits.
abbrev pub invariant-loop-rest : goal.invariant-loop-rest
invariant-loop-rest l = l.out ++ encode_lower l.rest ≡ l.initial.out ++ encode_lower l.octets

abbrev pub decreases-loop-rest : goal.decreases-loop-rest
decreases-loop-rest l = length l.rest
