-- Digit strings, and the numbers that they stand for.
use Rattle.std.specs.Prelude.{Bool, not, ◌&&◌, ◌==◌, nat_lt, ℕ, ◌+◌, ◌-◌, ◌*◌, List, [], ◌∷◌, length, drop, codes, nat_eq, if◌then◌else◌}
use Rattle.std.specs.List.{list_all, prefix_len, starts_with}
use Rattle.idl_lex.specs.Classes.{is_digit, is_hex_digit, begins}

-- a text that begins with `0x`
abbrev pub is_hex : List ℕ → Bool
is_hex text = starts_with nat_eq text (codes "0x")

-- how many octets the digit string has that comes first in a text: `0x` and the longest run of hexadecimal digits, or the longest run of decimal digits
abbrev pub digit_count : List ℕ → ℕ
digit_count text = if is_hex text then 2 + prefix_len is_hex_digit (drop 2 text) else prefix_len is_digit text

-- the base of a digit string: 16 after `0x`, 8 after a leading 0, else 10
abbrev pub base_of : List ℕ → ℕ
base_of os = if is_hex os then 16 else if begins (λ o. o == 48) os then 8 else 10

-- the digits of a digit string
abbrev pub digits_of : List ℕ → List ℕ
digits_of os = if is_hex os then drop 2 os else os

-- what a digit stands for
abbrev pub digit_value : ℕ → ℕ
digit_value o = if is_digit o then o - 48 else if nat_lt o 97 then o - 55 else o - 87

-- a digit string that is a number: it has a digit, and each digit is one of the base
abbrev pub is_number : List ℕ → Bool
is_number os = not (length (digits_of os) == 0) && list_all (λ o. nat_lt (digit_value o) (base_of os)) (digits_of os)

-- the number that digits stand for in a base, read on from n
abbrev pub value_on : ℕ → ℕ → List ℕ → ℕ
value_on base n [] = n
value_on base n (o ∷ os) = value_on base (n * base + digit_value o) os

-- the number that a digit string stands for
abbrev pub value_of : List ℕ → ℕ
value_of os = value_on (base_of os) 0 (digits_of os)
