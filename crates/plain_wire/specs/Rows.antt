-- The numbers of a row after their one gap: by themselves, and as the image that the row is kept as.
use Rattle.std.specs.Prelude.{◌≡◌, ◌⊎◌, ℕ, zero, suc, ℤ, List, flat_map}
use Rattle.std.specs.Int.{w8}
use Rattle.mint.specs.declared.kind.Kind.{Kind}
use Rattle.mint.specs.Kinds.{word, width}
use Rattle.mint.specs.Types.{number}
use Rattle.wire_def.specs.declared.encoding.Encoding.{Encoding}
use Rattle.wire_def.specs.declared.encoding.Encoding.TheVariants.{Xdr, CdrBig}
use Rattle.wire_def.specs.Scalars.{gap, alignment_of, width_of, number_octets, residue}
use Rattle.plain_wire.specs.declared.widths.Way.{Way}
use Rattle.plain_wire.specs.declared.widths.Way.TheVariants.{Copied, Swapped, Single}
use Rattle.kit_swap.specs.Swapped.{swapped, IsSwapWidth}

-- the octets of a number, without a gap before them
unfoldable pub bare_octets : Encoding → Kind → ℤ → List ℕ
bare_octets e k n = number_octets e (width_of e (number k)) (residue (width_of e (number k)) n)

-- the octets of numbers, one after the other without gaps
abbrev pub numbers_octets : Encoding → Kind → List ℤ → List ℕ
numbers_octets e k ns = flat_map (bare_octets e k) ns

-- how many octets come before the first of so many numbers
abbrev pub first_gap : Encoding → Kind → ℕ → ℕ → ℕ
first_gap e k p zero = 0
first_gap e k p (suc n) = gap p (alignment_of e (number k))

-- numbers travel with their least significant octet first
abbrev pub IsLittle : Encoding → Type 0
IsLittle Xdr = ⊥
IsLittle CdrBig = ⊥
IsLittle _ = Unit {0}

-- the kind's numbers have as many octets in a message as in an image
abbrev pub InImage : Encoding → Kind → Type 0
InImage e k = width_of e (number k) ≡ word k

-- a row travels as its image, as that with each number's octets reversed, or number by number
abbrev pub IsWay : Encoding → Kind → Way → Type 0
IsWay e k Copied = InImage e k × (IsLittle e ⊎ (word k ≡ w8))
IsWay e k Swapped = InImage e k × (IsLittle e → ⊥) × IsSwapWidth (width k)
IsWay e k Single = InImage e k → ⊥

-- octets that travel, as an image, and an image as octets that travel
abbrev pub arranged : Way → ℕ → List ℕ → List ℕ
arranged Swapped w o = swapped w o
arranged _ w o = o
