-- The law of pairs.
use Rattle.std.specs.Prelude.{◌≡◌, ℕ, Some}
use Rattle.pres.specs.Bindings.{Binding, IsBinding}
use Rattle.pres_pairs.specs.Pairs.{ArePaired, pair_of}

-- an operation and its pair in another binding of one unit, over any back ends, have one interface and name, and messages of the same types
abbrev pub PairsHaveOneType : Type 0
PairsHaveOneType = (b c : Binding) (op other : ℕ) → IsBinding b → IsBinding c → b.unit ≡ c.unit → pair_of b c op ≡ Some other
    → ArePaired b c op other
