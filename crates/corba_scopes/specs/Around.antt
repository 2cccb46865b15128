-- The prefixes of scopes. A scope is its prefix: nothing for the file; for what is declared in a scope that prefix, its name and a dot.
use Rattle.std.specs.Prelude.{ℕ, ◌==◌, List, [], ◌∷◌, ◌++◌, map, codes, if◌then◌else◌}

-- the prefix of the scope into which `::` leads after a full name
abbrev pub prefix_of : List ℕ → List ℕ
prefix_of full = full ++ codes "."

-- the innermost of the scopes around a place; outside of every definition that of the file
abbrev pub innermost : List (List ℕ) → List ℕ
innermost [] = []
innermost (scope ∷ env) = scope

-- the scopes around a place inside what is declared by this name
abbrev pub inside : List ℕ → List (List ℕ) → List (List ℕ)
inside name env = prefix_of (innermost env ++ name) ∷ env

-- the scopes around a place outside of the innermost
abbrev pub outside : List (List ℕ) → List (List ℕ)
outside [] = []
outside (scope ∷ env) = env

-- ---- repository ids

-- `/` in the place of `.`
abbrev pub slashed : ℕ → ℕ
slashed c = if c == 46 then 47 else c

-- the prefix of the repository ids of a scope's exceptions: `IDL:M/`
abbrev pub ids_of : List ℕ → List ℕ
ids_of scope = codes "IDL:" ++ map slashed scope
