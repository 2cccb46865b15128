-- A number grows with each digit, by induction on the digits.
use Rattle.std.proofs.Common.{◌≡◌, ℕ, ◌+◌, ◌*◌, ◌≤◌, ◌<◌, List, [], ◌∷◌, length, get_or, drop, ap, ◌∙◌, arith}
use Rattle.std.proofs.Math.Nat.{mul-le-mul_left}
use Rattle.idl_lex.proofs.Counts.{drop_at}
use Rattle.idl_lex.specs.Numbers.{value_on, digit_value}

pub grows : (base n : ℕ) (os : List ℕ) → 0 < base → n ≤ value_on base n os
grows base n [] some = omega arith
grows base n (o ∷ os) some =
    let once : n * 1 ≤ n * base = mul-le-mul_left n some in
    omega (arith, once, grows base (n * base + digit_value o) os some)

-- the number as it is read on after the digit at a place
pub read_on : (base n i v : ℕ) (os : List ℕ) → v ≡ value_on base n (drop i os) → i < length os
    → v ≡ value_on base (n * base + digit_value (get_or os i 0)) (drop (i + 1) os)
read_on base n i v os is lt = is ∙ ap (value_on base n) (drop_at os i lt)

-- the number is at least what is read so far
pub at_least : (base n i v : ℕ) (os : List ℕ) → v ≡ value_on base n (drop i os) → i < length os → 0 < base
    → n * base + digit_value (get_or os i 0) ≤ v
at_least base n i v os is lt some =
    omega (arith, grows base (n * base + digit_value (get_or os i 0)) (drop (i + 1) os) some, read_on base n i v os is lt)
