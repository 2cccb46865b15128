-- Names of one place.
use Rattle.std.specs.Prelude.{Bool, ℕ, List, map, Option}
use Rattle.std.specs.List.{list_any}
use Rattle.std.specs.Map.{lookup}
use Rattle.std.specs.Str.{bytes_eq}

-- a name is one of these
abbrev pub has : List ℕ → List (List ℕ) → Bool
has name names = list_any (bytes_eq name) names

-- a name is declared
abbrev pub is_declared : {M : Type 0} → List ℕ → List (List ℕ × M) → Bool
is_declared name table = has name (map (λ e. e.0) table)

-- what a name stands for, if it is declared: of two of one name the first counts
abbrev pub meaning_of : {M : Type 0} → List ℕ → List (List ℕ × M) → Option M
meaning_of name table = lookup (bytes_eq name) table
