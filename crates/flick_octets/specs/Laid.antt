-- Entries that are laid one after the other.
use Rattle.std.specs.Prelude.{ℕ, List, [], ◌∷◌, Option, Some, None, if◌then◌else◌, ◌==◌, ◌&&◌, nat_le}
use Rattle.flick_octets.specs.declared.entry.Entry.{Entry}

-- where entries end of which the first begins at a place, and each other where the one before ends
abbrev pub laid : ℕ → List Entry → Option ℕ
laid at [] = Some at
laid at (e ∷ es) = if (e.first == at) && nat_le at e.end then laid e.end es else None

-- entries, and where they end
pub record Lines : Type 0 where
  -- the entries, in order
  pub entries : List Entry
  -- the place after the last octet of the last
  pub end : ℕ
