-- Turns one after the other, until rooms come back.
use Rattle.std.specs.Prelude.{◌≡◌, ℕ, ◌+◌, Bool, List, Option, MatchBool, ◌⊎◌}
use Rattle.stub_cover.specs.Rooms.{no_rooms}
use Rattle.stub_rooms.specs.RoomsShown.{least_of}
use Rattle.stub_places.specs.Sets.{each_of}
use Rattle.stub_rooms.specs.declared.turns.Turning.{Turning}

-- no turns yet
pub record IsStart (rooms : List (Option ℕ)) (a : Turning) : Type 0 where
  pub low : a.low ≡ each_of no_rooms
  pub here : a.here ≡ rooms
  pub kept : a.kept ≡ rooms
  pub since : a.since ≡ 0

-- one turn more, and the rooms are the ones that are kept
pub record IsBack (next : List (Option ℕ)) (a b : Turning) : Type 0 where
  pub low : b.low ≡ least_of a.low a.here
  pub back : next ≡ a.kept

-- one turn more, with the same rooms kept
pub record IsKept (a b : Turning) : Type 0 where
  pub kept : b.kept ≡ a.kept
  pub since : b.since ≡ a.since + 1

-- one turn more, with its rooms kept
pub record IsAnew (next : List (Option ℕ)) (b : Turning) : Type 0 where
  pub kept : b.kept ≡ next
  pub since : b.since ≡ 0

-- one turn more, and the rooms may be new
pub record IsFarther (next : List (Option ℕ)) (a b : Turning) : Type 0 where
  pub low : b.low ≡ least_of a.low a.here
  pub here : b.here ≡ next
  pub keeps : IsKept a b ⊎ IsAnew next b

-- one turn more: whether its rooms have come back
abbrev pub IsNext : List (Option ℕ) → Turning → Bool → Turning → Type 0
IsNext next a back b = MatchBool back (IsBack next a b) (IsFarther next a b)
