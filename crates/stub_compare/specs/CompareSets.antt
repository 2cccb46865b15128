-- Sets of residues side by side, nine in a table.
use Rattle.std.specs.Prelude.{◌≡◌, ℕ, zero, suc, ◌<◌, Bool, List, [], ◌∷◌, slice_index_or, if◌then◌else◌}
use Rattle.stub_flat.specs.Residues.{Residues, only, sum}
use Rattle.stub_places.specs.Sets.{each_of, set_of}

-- the same residues below 8
abbrev pub Agree : Residues → Residues → Type 0
Agree S T = (r : ℕ) → r < 8 → S r ≡ T r

-- nine sets, by their places
abbrev pub rows_of : (ℕ → Residues) → List (List Bool)
rows_of f = each_of (f 0) ∷ each_of (f 1) ∷ each_of (f 2) ∷ each_of (f 3) ∷ each_of (f 4) ∷ each_of (f 5) ∷ each_of (f 6) ∷ each_of (f 7)
    ∷ each_of (f 8) ∷ []

-- the set at a place of a table
abbrev pub row : List (List Bool) → ℕ → Residues
row t k = set_of (slice_index_or t k [])

-- what a table makes of a set: the last row, and the rows of the first so many residues that are in the set
abbrev pub applied : ℕ → List (List Bool) → Residues → Residues
applied zero t S = row t 8
applied (suc k) t S = if S k then sum (applied k t S) (row t k) else applied k t S

-- the table of what a function makes of each residue, and of none
abbrev pub IsTableOf : (Residues → Residues) → List (List Bool) → Type 0
IsTableOf f t = (k : ℕ) → k < 9 → Agree (row t k) (f (only k))

-- each set of a table led on
abbrev pub LedBy : (Residues → Residues) → List (List Bool) → List (List Bool) → Type 0
LedBy f old new = (k : ℕ) → k < 9 → Agree (row new k) (f (row old k))
