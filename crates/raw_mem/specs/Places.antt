-- Octets at a raw pointer.
use Rattle.std.specs.Prelude.{◌≡◌, ℕ, List}
use base.Fml.{Fml, Lft}
use denote.Builtin.{u8}
use denote.Slice.{elements_shared}
use denote.RawPtr.{Ptr, block_ptr, block_of, count_of}

-- a pointer into a block
abbrev pub IsPlaced : Ptr → Type 0
IsPlaced p = p ≡ block_ptr (block_of p) (count_of p)

-- the right to read the octets xs at p while l lasts, for which they stay as they are
abbrev pub lent_owns : Lft → Ptr → List ℕ → Fml
lent_owns l p xs = elements_shared u8 xs (block_of p) (count_of p) l
