-- Numbers, items of enums, texts and rows in JSON.
use Rattle.std.specs.Prelude.{ℕ, ℤ, pos, Bool, true, false, List, [], ◌∷◌, map, Option, Some, None, if◌then◌else◌, option_and_then, option_map}
use Rattle.mint.specs.declared.kind.Kind.{Kind}
use Rattle.mint.specs.declared.kind.Kind.TheVariants as kind
use Rattle.mint.specs.Kinds.{in_range}
use Rattle.mint.specs.Types.{Array, text, row_of}
use Rattle.pres.specs.Faces.{Sign, number, item}
pub use Rattle.pres.specs.Tables.{number_named}
use Rattle.serde_json.specs.Data.{Data, Items, no_items}
use Rattle.serde_json.specs.Data as json
use Rattle.serde_json.specs.Find.{as_bool, as_number, as_integer, as_str, as_array}
use Rattle.json_shape.specs.Texts.{octets_in, hex_in}

-- the number of false and of true
abbrev pub flag : Bool → ℤ
flag true = pos 1
flag false = pos 0

-- the one octet of a list, as a number
abbrev pub only : List ℕ → Option ℤ
only (n ∷ []) = Some (pos n)
only _ = None

-- a number that is in the range of a kind
abbrev pub ranged : Kind → ℤ → Option ℤ
ranged k n = if in_range k n then Some n else None

-- a whole number of a kind
abbrev pub whole_in : Kind → Data → Option ℤ
whole_in k j = option_and_then (ranged k) (option_and_then as_integer (as_number j))

-- the number of a kind that a tree is: false or true, a string of one character, or a whole number
abbrev pub number_in : Kind → Data → Option ℤ
number_in kind.Bool j = option_map flag (as_bool j)
number_in kind.Char j = option_and_then only (octets_in j)
number_in k j = whole_in k j

-- the number that a tree is, or that of the item which a string names
abbrev pub sign_in : Sign → Data → Option ℤ
sign_in (number k) j = number_in k j
sign_in (item items) j = option_and_then (number_named items) (as_str j)

-- the numbers that the trees of an array are
abbrev pub each_in : Kind → Items → Option (List ℤ)
each_in k no_items = Some []
each_in k (json.item j js) = option_and_then (λ n. option_map (λ ns. n ∷ ns) (each_in k js)) (number_in k j)

-- the numbers of a row: hexadecimal digits for octets, a string for characters, else an array
abbrev pub row_in : Kind → Data → Option (List ℤ)
row_in kind.Octet j = option_map (map pos) (hex_in j)
row_in kind.Char j = option_map (map pos) (octets_in j)
row_in k j = option_and_then (each_in k) (as_array j)

-- the numbers of a text, or of a row
abbrev pub array_in : Array → Data → Option (List ℤ)
array_in (text c) j = option_map (map pos) (octets_in j)
array_in (row_of k c) j = row_in k j
