-- How many octets a number has.
use Rattle.std.specs.Prelude.{◌<◌, ℤ, pos, negsuc}
use Rattle.std.specs.Int.{Width, w8, w16, w32, w64}
use Rattle.wire_def.specs.Scalars.{full, half}
use Rattle.plain_wire.specs.declared.widths.Size.{Size}
use Rattle.plain_wire.specs.declared.widths.Size.TheVariants as size

abbrev pub width_in : Size → Width
width_in size.One = w8
width_in size.Two = w16
width_in size.Four = w32
width_in size.Eight = w64

-- a number with or without a sign that the width has room for
abbrev pub FitsWidth : Width → ℤ → Type 0
FitsWidth w (pos n) = n < full w
FitsWidth w (negsuc n) = n < half w
