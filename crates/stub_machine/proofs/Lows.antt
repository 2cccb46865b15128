-- The octets of a number that fits, by its sign.
use Rattle.std.proofs.Common.{◌≡◌, ℕ, ◌-◌, ◌%◌, ℤ, pos, negsuc, None, Some, Bool, true, false, nat_lt, if◌then◌else◌, refl, ap, arith}
use Rattle.std.specs.Int.{w128, cast_unsigned}
use Rattle.std.proofs.lemmas.Bool.{ltb-true}
use Rattle.cast_stub.specs.Parts.{IsThere}
use Rattle.cast_stub.specs.Puts.{wrapped}

-- what a test gives, where something is there
chosen : (b : Bool) (m r : ℕ) → IsThere (if b then Some m else None) → ((b ≡ true) → r ≡ m) → Some r ≡ (if b then Some m else None)
chosen true m r there h = ap Some (h refl)
chosen false m r there h = absurd there

-- a number that fits in one octet, in two, four and eight, is what is left of its octets
pub low_1 : (z : ℤ) (r : ℕ) → r ≡ cast_unsigned w128 z % 256 → IsThere (wrapped 128 z) → Some r ≡ wrapped 128 z
low_1 (pos n) r e there = chosen (nat_lt n 256) n r there (λ t. omega (arith, e, ltb-true n 256 t))
low_1 (negsuc n) r e there = chosen (nat_lt n 128) (255 - n) r there (λ t. omega (arith, e, ltb-true n 128 t))

pub low_2 : (z : ℤ) (r : ℕ) → r ≡ cast_unsigned w128 z % 65536 → IsThere (wrapped 32768 z) → Some r ≡ wrapped 32768 z
low_2 (pos n) r e there = chosen (nat_lt n 65536) n r there (λ t. omega (arith, e, ltb-true n 65536 t))
low_2 (negsuc n) r e there = chosen (nat_lt n 32768) (65535 - n) r there (λ t. omega (arith, e, ltb-true n 32768 t))

pub low_4 : (z : ℤ) (r : ℕ) → r ≡ cast_unsigned w128 z % 4294967296 → IsThere (wrapped 2147483648 z) → Some r ≡ wrapped 2147483648 z
low_4 (pos n) r e there = chosen (nat_lt n 4294967296) n r there (λ t. omega (arith, e, ltb-true n 4294967296 t))
low_4 (negsuc n) r e there = chosen (nat_lt n 2147483648) (4294967295 - n) r there (λ t. omega (arith, e, ltb-true n 2147483648 t))

pub low_8 : (z : ℤ) (r : ℕ) → r ≡ cast_unsigned w128 z % 18446744073709551616 → IsThere (wrapped 9223372036854775808 z)
    → Some r ≡ wrapped 9223372036854775808 z
low_8 (pos n) r e there = chosen (nat_lt n 18446744073709551616) n r there (λ t. omega (arith, e, ltb-true n 18446744073709551616 t))
low_8 (negsuc n) r e there =
    chosen (nat_lt n 9223372036854775808) (18446744073709551615 - n) r there (λ t. omega (arith, e, ltb-true n 9223372036854775808 t))

pub ruleset lows = (low_1, low_2, low_4, low_8)
