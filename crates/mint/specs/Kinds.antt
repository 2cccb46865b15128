-- The ranges of kinds, and what a count allows.
use Rattle.std.specs.Prelude.{Bool, nat_lt, IsTrue, ◌&&◌, not, ◌≡◌, ℕ, ◌<◌, ◌≤◌, ℤ, pos, negsuc}
use Rattle.std.specs.Ordering.{int_eq}
use Rattle.std.specs.Int.{Width, w8, w16, w32, w64, byte_len}
use Rattle.mint.specs.declared.kind.Kind.{Kind}
use Rattle.mint.specs.declared.kind.Kind.TheVariants as kind
use Rattle.mint.specs.declared.kind.Count.{Count}
use Rattle.mint.specs.declared.kind.Count.TheVariants.{Exactly, AtMost, Any}

-- one more than the greatest number of a kind
abbrev pub above : Kind → ℕ
above kind.Octet = 256
above kind.I8 = 128
above kind.U8 = 256
above kind.Char = 256
above kind.I16 = 32768
above kind.U16 = 65536
above kind.I32 = 2147483648
above kind.U32 = 4294967296
above kind.I64 = 9223372036854775808
above kind.U64 = 18446744073709551616
above kind.Bool = 2

-- how many numbers below 0 a kind has
abbrev pub under : Kind → ℕ
under kind.I8 = 128
under kind.I16 = 32768
under kind.I32 = 2147483648
under kind.I64 = 9223372036854775808
under _ = 0

-- the word that a number of a kind takes in an image
abbrev pub word : Kind → Width
word kind.I16 = w16
word kind.U16 = w16
word kind.I32 = w32
word kind.U32 = w32
word kind.I64 = w64
word kind.U64 = w64
word _ = w8

-- how many octets that word has
abbrev pub width : Kind → ℕ
width k = byte_len (word k)

abbrev pub in_range : Kind → ℤ → Bool
in_range k (pos n) = nat_lt n (above k)
in_range k (negsuc n) = nat_lt n (under k)

abbrev pub IsInRange : Kind → ℤ → Type 0
IsInRange k n = IsTrue (in_range k n)

-- an octet that a text may have: each but 0
abbrev pub is_letter : ℤ → Bool
is_letter n = in_range kind.Char n && not (int_eq n (pos 0))

-- a length that a count allows; a list has fewer than 2 ^ 32 elements
abbrev pub Allows : Count → ℕ → Type 0
Allows (Exactly m) n = n ≡ m
Allows (AtMost m) n = (n ≤ m) × (n < 4294967296)
Allows Any n = n < 4294967296

-- a number of the kind that is one octet
abbrev pub is_octet : Kind → ℤ → Bool
is_octet k n = in_range kind.Octet n && in_range k n
