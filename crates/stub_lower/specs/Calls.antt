-- Calls of the codes of parts, whatever blocks they stand in.
use Rattle.std.specs.Prelude.{ℕ, suc, ℤ, List, [], ◌∷◌}

-- calls for fields, the first of them of this number, and what follows them
abbrev pub calls_of : {B : Type 0} → (ℕ → List ℕ → B → B) → B → ℕ → List ℕ → B
calls_of call stop j [] = stop
calls_of call stop j (i ∷ is) = call i (j ∷ []) (calls_of call stop (suc j) is)

-- a call for each arm before the body of the last one
abbrev pub cases_of : {B C : Type 0} → (ℤ → B → C → C) → (ℕ → B) → C → List (ℤ × ℕ) → C
cases_of case here last [] = last
cases_of case here last (a ∷ arms) = case a.0 (here a.1) (cases_of case here last arms)
