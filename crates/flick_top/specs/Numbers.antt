-- The numbers of words.
use Rattle.std.specs.Prelude.{ℕ, List, length, ◌&&◌, nat_le, if◌then◌else◌, Option, Some, None}
use Rattle.kit_base.specs.Decimal.{value_on}

-- a number, where it is at most this
abbrev pub at_most : ℕ → Option ℕ → Option ℕ
at_most most None = None
at_most most (Some n) = if nat_le n most then Some n else None

-- the number of a word of 1 to 20 decimal digits, where it is at most this
abbrev pub number_in : ℕ → List ℕ → Option ℕ
number_in most word = if nat_le 1 (length word) && nat_le (length word) 20 then at_most most (value_on 0 word) else None
