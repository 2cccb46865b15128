-- Sets of residues of a position by 8 as eight values.
use Rattle.std.specs.Prelude.{ℕ, Bool, false, List, [], ◌∷◌, slice_index_or}
use Rattle.stub_flat.specs.Residues.{Residues}

-- the values at the residues 0 to 7
abbrev pub each_of : {A : Type 0} → (ℕ → A) → List A
each_of f = f 0 ∷ f 1 ∷ f 2 ∷ f 3 ∷ f 4 ∷ f 5 ∷ f 6 ∷ f 7 ∷ []

-- the set whose values are listed from residue 0 on
abbrev pub set_of : List Bool → Residues
set_of bs r = slice_index_or bs r false
