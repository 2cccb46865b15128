-- The names of fields.
use Rattle.std.specs.Prelude.{ℕ, List, [], ◌∷◌}
use Rattle.std.specs.Str.{IsAscii}
use Rattle.aoi.specs.Shapes.{Members, no_more, member}

-- the names of fields
abbrev pub names_of : Members → List (List ℕ)
names_of no_more = []
names_of (member n s ms) = n ∷ names_of ms

-- names of ASCII
abbrev pub AreAscii : List (List ℕ) → Type 0
AreAscii [] = Unit {0}
AreAscii (n ∷ ns) = IsAscii n × AreAscii ns
