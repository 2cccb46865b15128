-- Names that are found in a tree.
use Rattle.std.specs.Prelude.{◌≡◌, List, ℕ}
use Rattle.std.specs.List.{position_from}
use Rattle.std.specs.Str.{bytes_eq}
use Rattle.demux.specs.declared.tree.Node.{Node}
use Rattle.demux.specs.Spelled.{AreOctets}
use Rattle.demux.specs.Trees.{place_in}

-- a tree that finds the place of the first of each name, counted from 0
abbrev pub FindsPlaces : List (List ℕ) → List Node → Type 0
FindsPlaces names t = (s : List ℕ) → AreOctets s → place_in t s ≡ position_from (bytes_eq s) 0 names
