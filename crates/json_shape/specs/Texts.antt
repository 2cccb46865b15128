-- Strings that stand for octets, one character each.
use Rattle.std.specs.Prelude.{ℕ, List, Option, Some, None, if◌then◌else◌, nat_lt, option_and_then, Bool}
use Rattle.std.specs.List.{list_all}
use Rattle.std.specs.Str.{chars}
use Rattle.std.specs.Result.{result_ok}
use Rattle.hex.specs.Hex.{decode_of}
use Rattle.serde_json.specs.Data.{Data}
use Rattle.serde_json.specs.Find.{as_str}
pub use Rattle.pres.specs.Tables.{text_of}

-- a number that an octet can hold
abbrev pub is_octet : ℕ → Bool
is_octet c = nat_lt c 256

-- numbers that octets can hold
abbrev pub are_octets : List ℕ → Bool
are_octets = list_all is_octet

-- the octets of a string, where no character is above U+00FF
abbrev pub octets_of : List ℕ → Option (List ℕ)
octets_of s = if are_octets (chars s) then Some (chars s) else None

-- the octets that a string has as characters
abbrev pub octets_in : Data → Option (List ℕ)
octets_in j = option_and_then octets_of (as_str j)

-- the octets that a string has in hexadecimal digits
abbrev pub hex_in : Data → Option (List ℕ)
hex_in j = option_and_then (λ s. result_ok (decode_of s)) (as_str j)
