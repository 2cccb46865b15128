-- The lines of a text and their words.
use Rattle.std.specs.Prelude.{ℕ, zero, suc, ◌+◌, ◌/◌, ◌%◌, nat_lt, if◌then◌else◌, ℤ, pos, negsuc, List, [], ◌∷◌, ◌++◌, codes}
use Rattle.wire_def.specs.declared.head.Order.{Order}
use Rattle.wire_def.specs.declared.head.Order.TheVariants.{Big, Little}

-- a number in decimal, in so many digits at most
abbrev pub digits : ℕ → ℕ → List ℕ
digits zero n = []
digits (suc k) n = if nat_lt n 10 then (48 + n) ∷ [] else digits k (n / 10) ++ (48 + n % 10) ∷ []

-- a number in decimal, without leading zeros
unfoldable pub numeral : ℕ → List ℕ
numeral n = digits (suc n) n

-- a number with its sign
unfoldable pub integer : ℤ → List ℕ
integer (pos n) = numeral n
integer (negsuc n) = 45 ∷ numeral (suc n)

-- the numbers of fields, each after a point
abbrev pub points : List ℕ → List ℕ
points [] = []
points (n ∷ ns) = 46 ∷ (numeral n ++ points ns)

-- a path: a point alone for the value itself
unfoldable pub path_word : List ℕ → List ℕ
path_word [] = codes "."
path_word (n ∷ ns) = points (n ∷ ns)

abbrev pub order_word : Order → List ℕ
order_word Big = codes "be"
order_word Little = codes "le"

-- a hexadecimal digit in lower case
abbrev pub hex_digit : ℕ → ℕ
hex_digit d = if nat_lt d 10 then 48 + d else 87 + d

-- octets in two hexadecimal digits each
abbrev pub hex : List ℕ → List ℕ
hex [] = []
hex (o ∷ os) = hex_digit (o / 16) ∷ hex_digit (o % 16) ∷ hex os

-- a word after a space, and then what follows
abbrev pub spaced : List ℕ → List ℕ → List ℕ
spaced w rest = 32 ∷ (w ++ rest)

-- words, each after a space, and the end of their line; and then what follows
abbrev pub words : List (List ℕ) → List ℕ → List ℕ
words [] rest = 10 ∷ rest
words (w ∷ ws) rest = spaced w (words ws rest)

-- a line of a first word and others, and then what follows
abbrev pub line : List ℕ → List (List ℕ) → List ℕ → List ℕ
line w ws rest = w ++ words ws rest

-- the line that ends a block, and then what follows
abbrev pub ended : List ℕ → List ℕ
ended rest = line (codes "end") [] rest
