-- What the descriptors of Mach messages say, as numbers and octets.
use Rattle.std.proofs.Common.{◌≡◌, ℕ, ◌+◌, ◌*◌, ◌/◌, ◌%◌, ◌<◌, ◌≤◌, ℤ, ◌++◌, false, replicate, refl, sym, ap, arith}
use Rattle.std.proofs.lemmas.Bool.{ltb-false}
use Rattle.std.proofs.Math.Nat.{mul-le-mul_right}
use Rattle.kit_base.specs.Bytes.{le}
use Rattle.mint.specs.declared.kind.Kind.{Kind}
use Rattle.mint.specs.declared.kind.Count.{Count}
use Rattle.mint.specs.declared.kind.Count.TheVariants.{Exactly, AtMost, Any}
use Rattle.mint.specs.Kinds.{Allows}
use Rattle.mint.specs.Types.{number}
use Rattle.wire_def.specs.declared.encoding.Encoding.TheVariants.{Mach}
use Rattle.wire_def.specs.Scalars.{gap, scalar_octets}
use Rattle.wire_def.specs.Lone.{filling, lone_octets, scalar_word, units_of}
use Rattle.wire_def.specs.Described.{is_long, long_words, most_units}
use Rattle.plain_wire.specs.Rows.{bare_octets}

-- 8 octets are a number modulo 2 to the 64
le_wraps : (x j : ℕ) → le 8 (x + 18446744073709551616 * j) ≡ le 8 x
le_wraps x j =
    let one : (x + 18446744073709551616 * j) % 256 ≡ x % 256 = omega arith in
    let two : (x + 18446744073709551616 * j) / 256 % 256 ≡ x / 256 % 256 = omega arith in
    let three : (x + 18446744073709551616 * j) / 65536 % 256 ≡ x / 65536 % 256 = omega arith in
    let four : (x + 18446744073709551616 * j) / 16777216 % 256 ≡ x / 16777216 % 256 = omega arith in
    let five : (x + 18446744073709551616 * j) / 4294967296 % 256 ≡ x / 4294967296 % 256 = omega arith in
    let six : (x + 18446744073709551616 * j) / 1099511627776 % 256 ≡ x / 1099511627776 % 256 = omega arith in
    let seven : (x + 18446744073709551616 * j) / 281474976710656 % 256 ≡ x / 281474976710656 % 256 = omega arith in
    let eight : (x + 18446744073709551616 * j) / 72057594037927936 % 256 ≡ x / 72057594037927936 % 256 = omega arith in
    rw (one, two, three, four, five, six, seven, eight) refl

-- so a number of units counts modulo 2 to the 32
pub long_wraps : (name bits u m : ℕ) → u ≡ long_words name bits 0 → le 8 (u + 4294967296 * (m % 4294967296)) ≡ le 8 (long_words name bits m)
long_wraps name bits u m is =
    let split : long_words name bits m ≡ u + 4294967296 * (m % 4294967296) + 18446744073709551616 * (m / 4294967296) = omega (arith, is) in
    rw split (sym (le_wraps (u + 4294967296 * (m % 4294967296)) (m / 4294967296)))

pub ruleset words = (long_wraps)

units_few : (c m n u : ℕ) → n ≤ m → m * u ≤ c → n * u ≤ c
units_few c m n u le few = omega (arith, mul-le-mul_right u le)

-- a short descriptor has at most 4,095 units
pub short_few : (c : Count) (k : Kind) (n : ℕ) → Allows c n → is_long c (number k) ≡ false → n * units_of (number k) ≤ most_units
short_few (Exactly m) k n is h = rw is (omega (arith, ltb-false 4095 (m * units_of (number k)) h))
short_few (AtMost m) k n is h = omega (arith, units_few 4095 m n (units_of (number k)) is.0 (ltb-false 4095 (m * units_of (number k)) h))
short_few Any k n is h = absurd cc

pub ruleset forms = (short_few)

scalar_bare : (k : Kind) (p : ℕ) (n : ℤ) → scalar_octets Mach (number k) p n ≡ bare_octets Mach k n
unfolding scalar_octets bare_octets
scalar_bare k p n =
    let none : gap p 1 ≡ 0 = omega arith in
    rw none refl

-- an item is its descriptor, the number, and what fills it up
pub item_parts : (k : Kind) (p : ℕ) (n : ℤ)
    → lone_octets Mach (number k) p n ≡ le 4 (scalar_word (number k)) ++ (bare_octets Mach k n ++ replicate (filling (number k)) 0)
item_parts k p n = ap (λ z. le 4 (scalar_word (number k)) ++ (z ++ replicate (filling (number k)) 0)) (scalar_bare k (p + 4) n)
