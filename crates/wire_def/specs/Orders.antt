-- Numbers of 1, 2, 4 or 8 octets, in either order.
use Rattle.std.specs.Prelude.{◌≡◌, ◌⊎◌, ℕ, List, Option, None, Some, nat_eq, if◌then◌else◌}
use Rattle.std.specs.Int.{Width, w8, w16, w32, w64, from_be_bytes, from_le_bytes}
use Rattle.kit_base.specs.Bytes.{be, le}
use Rattle.wire_def.specs.declared.head.Order.{Order}
use Rattle.wire_def.specs.declared.head.Order.TheVariants.{Big, Little}

-- a width that a number may be stored in
abbrev pub IsWidth : ℕ → Type 0
IsWidth w = (w ≡ 1) ⊎ (w ≡ 2) ⊎ (w ≡ 4) ⊎ (w ≡ 8)

-- the width of a number of so many octets
abbrev pub width_in : ℕ → Option Width
width_in w = if nat_eq w 1 then Some w8
    else if nat_eq w 2 then Some w16 else if nat_eq w 4 then Some w32 else if nat_eq w 8 then Some w64 else None

-- the width of a number of 1, 2 or 4 octets, and that of 8 for every other count
abbrev pub width_as : ℕ → Width
width_as w = if nat_eq w 1 then w8 else if nat_eq w 2 then w16 else if nat_eq w 4 then w32 else w64

-- the octets of a number in an order
abbrev pub in_order : Order → ℕ → ℕ → List ℕ
in_order Big w v = be w v
in_order Little w v = le w v

-- the number that octets of a width hold, in an order
abbrev pub loaded : Order → Width → List ℕ → ℕ
loaded Big x o = from_be_bytes x o
loaded Little x o = from_le_bytes x o
