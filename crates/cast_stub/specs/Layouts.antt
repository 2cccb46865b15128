-- How the numbers of an array stand in a message over an encoding.
use Rattle.std.specs.Prelude.{ℕ, None, Some, Bool, true, false, if◌then◌else◌}
use Rattle.std.specs.Int.{byte_len}
use Rattle.mint.specs.declared.kind.Kind.TheVariants as kind
use Rattle.mint.specs.declared.kind.Count.{Count}
use Rattle.mint.specs.declared.kind.Count.TheVariants.{Exactly}
use Rattle.mint.specs.Types.{Scalar, number, label, Array, row_of}
use Rattle.wire_def.specs.declared.encoding.Encoding.{Encoding}
use Rattle.wire_def.specs.declared.encoding.Encoding.TheVariants.{Xdr, CdrBig, CdrLittle}
use Rattle.wire_def.specs.declared.head.Order.{Order}
use Rattle.wire_def.specs.declared.head.Order.TheVariants.{Big, Little}
use Rattle.wire_def.specs.Scalars.{width_of}
use Rattle.wire_def.specs.Arrays.{kind_of, is_octets}
use Rattle.cast_stub.specs.Turned.{Layout}

-- which octet of a number comes first
abbrev pub order_of : Encoding → Order
order_of Xdr = Big
order_of CdrBig = Big
order_of _ = Little

-- the octets of a scalar; a label is a word
abbrev pub scalar_width : Encoding → Scalar → ℕ
scalar_width e (label labels) = 4
scalar_width e (number k) = byte_len (width_of e (number k))

-- the octets of an element of an array
abbrev pub element_width : Encoding → Array → ℕ
element_width e a = if is_octets a then 1 else scalar_width e (number (kind_of a))

-- whether a length is not fixed
abbrev pub is_free : Count → Bool
is_free (Exactly m) = false
is_free _ = true

-- whether a row is of 64-bit numbers and of no fixed length: padding is only before a first element
abbrev pub is_gapped : Array → Bool
is_gapped (row_of kind.I64 c) = is_free c
is_gapped (row_of kind.U64 c) = is_free c
is_gapped _ = false

-- whether an array goes element by element
abbrev pub is_looped : Encoding → Array → Bool
is_looped CdrBig a = is_gapped a
is_looped CdrLittle a = is_gapped a
is_looped _ a = false

-- each number by one put of its width, unless the array goes element by element
abbrev pub layout_of : Encoding → Layout
layout_of e a = if is_looped e a then None else Some (element_width e a, order_of e)
