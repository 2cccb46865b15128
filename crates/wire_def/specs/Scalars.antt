-- Numbers, one at a time.
use Rattle.std.specs.Prelude.{◌≡◌, ◌⊎◌, ℕ, ◌+◌, ◌-◌, ◌%◌, ◌^◌, ◌<◌, ℤ, pos, negsuc, List, ◌++◌, length, take, drop, replicate, Bool, true, false, nat_lt, if◌then◌else◌}
use Rattle.std.specs.Int.{Width, w8, w16, w32, w64, byte_len, from_be_bytes, from_le_bytes}
use Rattle.kit_base.specs.Bytes.{be, le}
use Rattle.mint.specs.declared.kind.Kind.TheVariants as kind
use Rattle.mint.specs.Types.{Scalar, number, label}
use Rattle.mint.specs.Typed.{is_scalar, IsScalar}
use Rattle.wire_def.specs.declared.encoding.Encoding.{Encoding}
use Rattle.wire_def.specs.declared.encoding.Encoding.TheVariants.{Xdr, CdrBig, CdrLittle, Mach}
use Rattle.wire_def.specs.declared.fault.FaultKind.{FaultKind}
use Rattle.wire_def.specs.declared.fault.FaultKind.TheVariants.{Short, BadValue}
use Rattle.wire_def.specs.Grammar.{got, stop, Reader, Spelling, Stopping, map_got, tested, Parts}

-- how many octets take a position p to a multiple of a, at the least
abbrev pub gap : ℕ → ℕ → ℕ
gap p a = (a - p % a) % a

-- one more than the greatest number of the width
abbrev pub full : Width → ℕ
full w8 = 2 ^ 8
full w16 = 2 ^ 16
full w32 = 2 ^ 32
full _ = 2 ^ 64

-- half as many as the numbers of a width
abbrev pub half : Width → ℕ
half w8 = 2 ^ 7
half w16 = 2 ^ 15
half w32 = 2 ^ 31
half _ = 2 ^ 63

-- a number modulo 2 to the width's bits
abbrev pub residue : Width → ℤ → ℕ
residue w (pos n) = n % full w
residue w (negsuc n) = full w - 1 - n % full w

-- the number that these bits stand for, with a sign or without
abbrev pub number_of : Bool → Width → ℕ → ℤ
number_of true w m = if nat_lt m (half w) then pos m else negsuc (full w - 1 - m)
number_of false w m = pos m

-- whether a scalar is in two's complement
abbrev pub is_signed : Scalar → Bool
is_signed (number kind.I8) = true
is_signed (number kind.I16) = true
is_signed (number kind.I32) = true
is_signed (number kind.I64) = true
is_signed (number _) = false
is_signed (label labels) = true

-- the width of a scalar, whatever the encoding
abbrev pub own_width : Scalar → Width
own_width (number kind.Octet) = w8
own_width (number kind.I8) = w8
own_width (number kind.U8) = w8
own_width (number kind.Char) = w8
own_width (number kind.Bool) = w8
own_width (number kind.I16) = w16
own_width (number kind.U16) = w16
own_width (number kind.I64) = w64
own_width (number kind.U64) = w64
own_width _ = w32

-- a width, or four octets where it is narrower: XDR's block (RFC 4506 section 3)
abbrev pub at_least_32 : Width → Width
at_least_32 w8 = w32
at_least_32 w16 = w32
at_least_32 w = w

-- the width that a scalar travels with; a boolean of a Mach message is a unit of 32 bits
abbrev pub width_of : Encoding → Scalar → Width
width_of Xdr s = at_least_32 (own_width s)
width_of Mach (number kind.Bool) = w32
width_of _ s = own_width s

-- what the position of a scalar is a multiple of
abbrev pub alignment_of : Encoding → Scalar → ℕ
alignment_of CdrBig s = byte_len (own_width s)
alignment_of CdrLittle s = byte_len (own_width s)
alignment_of _ s = 1

-- the octets of a number, in the order of the encoding
abbrev pub number_octets : Encoding → Width → ℕ → List ℕ
number_octets Xdr w m = be (byte_len w) m
number_octets CdrBig w m = be (byte_len w) m
number_octets _ w m = le (byte_len w) m

-- the number that octets stand for, in the order of the encoding
abbrev pub octets_number : Encoding → Width → List ℕ → ℕ
octets_number Xdr w o = from_be_bytes w o
octets_number CdrBig w o = from_be_bytes w o
octets_number _ w o = from_le_bytes w o

-- ---- a number of a width after its gap

-- the gap may have any octets
unfoldable pub WordSpells : Encoding → ℕ → Width → Spelling ℕ
WordSpells e a w p o m = (junk : List ℕ) × (length junk ≡ gap p a) × (o ≡ junk ++ number_octets e w m) × (m < full w)

-- octets that end before the number does: short where it begins
unfoldable pub WordStops : Encoding → ℕ → Width → Stopping FaultKind
WordStops e a w p o k at = (length o < gap p a + byte_len w) × (k ≡ Short) × (at ≡ p + gap p a)

-- a number of a width, read after its gap
unfoldable pub read_word : Encoding → ℕ → Width → Reader FaultKind ℕ
read_word e a w p o =
    if nat_lt (length o) (gap p a + byte_len w) then stop Short (p + gap p a)
    else got (octets_number e w (take (byte_len w) (drop (gap p a) o))) (p + (gap p a + byte_len w)) (drop (byte_len w) (drop (gap p a) o))

-- ---- scalars

-- the octets of a scalar from a position
unfoldable pub scalar_octets : Encoding → Scalar → ℕ → ℤ → List ℕ
scalar_octets e s p n = replicate (gap p (alignment_of e s)) 0 ++ number_octets e (width_of e s) (residue (width_of e s) n)

-- the place of a scalar itself
abbrev pub scalar_place : Encoding → Scalar → ℕ → ℕ
scalar_place e s p = p + gap p (alignment_of e s)

-- a number of the scalar, in the octets of its width
unfoldable pub ScalarSpells : Encoding → Scalar → Spelling ℤ
ScalarSpells e s p o n = WordSpells e (alignment_of e s) (width_of e s) p o (residue (width_of e s) n) × IsScalar s n

-- octets that are cut off, or whose number is not one of the scalar's
unfoldable pub ScalarStops : Encoding → Scalar → Stopping FaultKind
ScalarStops e s p o k at = WordStops e (alignment_of e s) (width_of e s) p o k at
    ⊎ ((m : ℕ) × Parts p o (λ a. WordSpells e (alignment_of e s) (width_of e s) p a m)
    (λ q b. (is_scalar s (number_of (is_signed s) (width_of e s) m) ≡ false) × (k ≡ BadValue) × (at ≡ scalar_place e s p)))

-- a scalar, read from a position
unfoldable pub read_scalar : Encoding → Scalar → Reader FaultKind ℤ
read_scalar e s = tested
    (λ p o. map_got (number_of (is_signed s) (width_of e s)) (read_word e (alignment_of e s) (width_of e s) p o))
    (is_scalar s) BadValue (scalar_place e s)
