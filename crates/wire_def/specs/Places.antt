-- The positions at which the items of an encoding may begin.
use Rattle.std.specs.Prelude.{◌≡◌, ℕ, ◌%◌}
use Rattle.wire_def.specs.declared.encoding.Encoding.{Encoding}
use Rattle.wire_def.specs.declared.encoding.Encoding.TheVariants.{Xdr, Mach}

-- a position at which an item may begin: over XDR and Mach a multiple of 4
abbrev pub IsPlace : Encoding → ℕ → Type 0
IsPlace Xdr p = p % 4 ≡ 0
IsPlace Mach p = p % 4 ≡ 0
IsPlace _ p = Unit {0}
