-- Decimal numbers in words.
use Rattle.std.specs.Prelude.{ℕ, ◌+◌, ◌-◌, ◌*◌, List, [], ◌∷◌, Option, Some, None, Bool, false, ◌&&◌, ◌||◌, ◌==◌, nat_le, if◌then◌else◌}

-- the decimal number of the digits of a word, read on from n: none where an octet is not a digit
abbrev pub value_on : ℕ → List ℕ → Option ℕ
value_on n [] = Some n
value_on n (d ∷ ds) = if nat_le 48 d && nat_le d 57 then value_on (10 * n + (d - 48)) ds else None

-- the decimal number of a word, from 1 and without a leading zero
abbrev pub number_in : List ℕ → Option ℕ
number_in [] = None
number_in (d ∷ ds) = if d == 48 then None else value_on 0 (d ∷ ds)

-- whether a word has a number, and it is this one
abbrev pub is_number : ℕ → Option ℕ → Bool
is_number n None = false
is_number n (Some m) = m == n

-- whether one of the words is this number
abbrev pub is_listed : ℕ → List (List ℕ) → Bool
is_listed n [] = false
is_listed n (w ∷ ws) = is_number n (number_in w) || is_listed n ws
