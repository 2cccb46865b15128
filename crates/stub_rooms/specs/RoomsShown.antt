-- Rooms as lists of eight, and what lists of eight show.
use Rattle.std.specs.Prelude.{◌≡◌, ℕ, Bool, List, Option, None, option_map, slice_index_or, if◌then◌else◌}
use Rattle.cast_stub.specs.Parts.{on_some}
use Rattle.stub_flat.specs.Residues.{Residues}
use Rattle.stub_cover.specs.Rooms.{Rooms, least}
use Rattle.stub_cover.specs.Covers.{Turn}
use Rattle.stub_places.specs.Sets.{each_of}

-- the rooms of a list
abbrev pub room_at : List (Option ℕ) → Rooms
room_at xs r = slice_index_or xs r None

-- the same room, if there is one, at each residue of a set
abbrev pub spread : Residues → Option ℕ → Rooms
spread S x r = if S r then x else None

-- the least rooms of two lists
abbrev pub least_of : List (Option ℕ) → List (Option ℕ) → List (Option ℕ)
least_of xs ys = each_of (least (room_at xs) (room_at ys))

-- those of two, if both are there
abbrev pub joined : Option (List (Option ℕ)) → Option (List (Option ℕ)) → Option (List (Option ℕ))
joined a b = on_some a (λ xs. option_map (least_of xs) b)

-- a list shows what a way makes of each set that another list shows
pub record Shown (g : Residues → Residues) (a b : List Bool) : Type 0 where
  pub told : (S : Residues) → a ≡ each_of S → b ≡ each_of (g S)

-- a list, if there is one, shows what a turn makes of all rooms that another list shows
pub record Follows (f : Turn) (a : List (Option ℕ)) (x : Option (List (Option ℕ))) : Type 0 where
  pub told : (R : Rooms) → a ≡ each_of R → x ≡ option_map each_of (f R)
