-- Numbers with their octets the other way round.
use Rattle.std.specs.Prelude.{◌≡◌, ◌⊎◌, ◌/◌, ℕ, List, ◌++◌, length, take, drop, reverse, flat_map}
use Rattle.std.specs.Simd.{first_chunks}

-- a width of the numbers that are swapped, in octets
abbrev pub IsSwapWidth : ℕ → Type 0
IsSwapWidth w = (w ≡ 2) ⊎ (w ≡ 4) ⊎ (w ≡ 8)

-- octets in whole runs of a width, each run reversed; fewer at the end are left out
unfoldable pub swapped : ℕ → List ℕ → List ℕ
swapped w o = flat_map reverse (first_chunks w (length o / w) o)

-- a row that is swapped up to a place, and what another list has from there on
abbrev pub swapped_to : ℕ → ℕ → List ℕ → List ℕ → List ℕ
swapped_to w at image old = swapped w (take at image) ++ drop at old
