-- Classes of octets.
use Rattle.std.specs.Prelude.{Bool, false, not, ◌&&◌, ◌||◌, ◌==◌, nat_le, ℕ, List, [], ◌∷◌}

-- an octet that parts what is beside it: 09 to 0d, and 20
abbrev pub is_blank : ℕ → Bool
is_blank o = (nat_le 9 o && nat_le o 13) || o == 32

-- an octet of a line, and so no line feed
abbrev pub is_in_line : ℕ → Bool
is_in_line o = not (o == 10)

-- a blank of the same line
abbrev pub is_line_blank : ℕ → Bool
is_line_blank o = is_blank o && is_in_line o

-- a letter, or the octet of `_`
abbrev pub is_letter : ℕ → Bool
is_letter o = (nat_le 97 o && nat_le o 122) || (nat_le 65 o && nat_le o 90) || o == 95

-- a decimal digit
abbrev pub is_digit : ℕ → Bool
is_digit o = nat_le 48 o && nat_le o 57

-- an octet of an identifier after its first
abbrev pub is_word_octet : ℕ → Bool
is_word_octet o = is_letter o || is_digit o

-- a hexadecimal digit
abbrev pub is_hex_digit : ℕ → Bool
is_hex_digit o = is_digit o || (nat_le 97 o && nat_le o 102) || (nat_le 65 o && nat_le o 70)

-- a text that begins with an octet of a class
abbrev pub begins : (ℕ → Bool) → List ℕ → Bool
begins is [] = false
begins is (o ∷ os) = is o
