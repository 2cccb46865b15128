-- What the grammar sees to.
use Rattle.std.specs.Prelude.{Bool, true, false, List, [], ◌∷◌}

-- a list that is not empty
abbrev pub is_some_list : {A : Type 0} → List A → Bool
is_some_list [] = false
is_some_list (x ∷ xs) = true
