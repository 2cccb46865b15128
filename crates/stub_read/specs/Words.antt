-- The words of a line: numbers, paths, orders, octets and names.
use Rattle.std.specs.Prelude.{ℕ, zero, suc, ◌+◌, ◌-◌, ◌*◌, ◌^◌, ℤ, pos, negsuc, Bool, false, ◌&&◌, ◌||◌, ◌==◌, nat_le, List, [], ◌∷◌, take, drop, Option, Some, None, codes, if◌then◌else◌}
use Rattle.std.specs.List.{position}
use Rattle.wire_def.specs.declared.head.Order.{Order}
use Rattle.wire_def.specs.declared.head.Order.TheVariants.{Big, Little}
use Rattle.stub_read.specs.Reading.{Read, Reader, begins, word_at, led, mapped, before, many}

-- what stands between words
abbrev pub space : List ℕ
space = 32 ∷ []

-- the end of a line
abbrev pub feed : List ℕ
feed = 10 ∷ []

-- ---- numbers

abbrev pub is_digit : ℕ → Bool
is_digit c = nat_le 48 c && nat_le c 57

-- whether a digit comes first
abbrev pub begins_digit : List ℕ → Bool
begins_digit [] = false
begins_digit (c ∷ cs) = is_digit c

-- a number, where it is not above another
abbrev pub at_most : ℕ → ℕ → Option ℕ
at_most most n = if nat_le n most then Some n else None

-- digits after those of a number, where the whole is not above another
abbrev pub digits_on : ℕ → ℕ → Reader ℕ
digits_on most n [] = Some (n, [])
digits_on most n (c ∷ cs) =
    if is_digit c then (if nat_le (10 * n + (c - 48)) most then digits_on most (10 * n + (c - 48)) cs else None) else Some (n, c ∷ cs)

-- the greatest number of 32 bits
unfoldable pub most_word : ℕ
most_word = 2 ^ 32 - 1

-- a number before a word
abbrev pub number_at : List ℕ → Reader ℕ
number_at stop = before (digits_on most_word 0) stop

-- the greatest number of 128 bits with a sign
unfoldable pub most_signed : ℕ
most_signed = 2 ^ 127 - 1

-- a number's negative
abbrev pub minus : ℕ → ℤ
minus zero = pos 0
minus (suc n) = negsuc n

-- a number with its sign, before a word
abbrev pub integer_at : List ℕ → Reader ℤ
integer_at stop t =
    if begins (codes "-") t then before (mapped minus (digits_on (most_signed + 1) 0)) stop (drop 1 t)
    else before (mapped pos (digits_on most_signed 0)) stop t

-- ---- paths

-- whether a point comes first, and then a digit
abbrev pub begins_field : List ℕ → Bool
begins_field t = begins (codes ".") t && begins_digit (drop 1 t)

-- a point before a digit
abbrev pub point_at : Reader (Unit {0})
point_at t = if begins_field t then Some (tt, drop 1 t) else None

-- the numbers of fields, each after a point
abbrev pub fields_at : Reader (List ℕ)
fields_at = many point_at (λ u. digits_on most_word 0)

-- a path: a point alone for the value itself
abbrev pub bare_path_at : Reader (List ℕ)
bare_path_at t = if begins_field t then fields_at t else mapped (λ u. []) (word_at (codes ".")) t

-- a path before a word
abbrev pub path_at : List ℕ → Reader (List ℕ)
path_at stop = before bare_path_at stop

-- ---- orders, octets and names

-- the order of a number's octets
abbrev pub bare_order_at : Reader Order
bare_order_at = led (codes "be") Big (mapped (λ u. Little) (word_at (codes "le")))

-- the same at the end of a line
abbrev pub order_at : Reader Order
order_at = before bare_order_at feed

abbrev pub is_hex : ℕ → Bool
is_hex c = is_digit c || (nat_le 97 c && nat_le c 102)

-- what a hexadecimal digit in lower case stands for
abbrev pub hex_value : ℕ → ℕ
hex_value c = if nat_le c 57 then c - 48 else c - 87

-- a hexadecimal digit
abbrev pub hex_digit_at : Reader ℕ
hex_digit_at [] = None
hex_digit_at (c ∷ cs) = if is_hex c then Some (hex_value c, cs) else None

-- octets in two hexadecimal digits each
abbrev pub octets_at : Reader (List ℕ)
octets_at = many hex_digit_at (λ a. mapped (λ b. 16 * a + b) hex_digit_at)

-- what comes before a place, and what comes after the octet there
abbrev pub parted_at : List ℕ → Option ℕ → Read (List ℕ)
parted_at t None = None
parted_at t (Some i) = Some (take i t, drop (i + 1) t)

-- what is left of a line
abbrev pub line_at : Reader (List ℕ)
line_at t = parted_at t (position (λ o. o == 10) t)
