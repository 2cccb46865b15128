-- What is held of names: by the keys of full names, and by the numbers of scopes.
use Rattle.std.specs.Prelude.{◌≡◌, ◌==◌, ℕ, List, [], ◌∷◌, ◌++◌, map, reverse, if◌then◌else◌}
use Rattle.std.specs.List.{list_any}
use Rattle.std.specs.Map.{lookup}
use Rattle.std.specs.Option.{unwrap_or}
use Rattle.corba_scopes.specs.declared.around.Around.{Around}
use Rattle.corba_scopes.specs.declared.meanings.Found.{Found}
use Rattle.corba_scopes.specs.declared.meanings.Meaning.{Meaning}
use Rattle.corba_scopes.specs.Names.{Names}
use Rattle.corba_scopes.specs.Finding.{Entry}
use Rattle.corba_scopes.specs.Parted.{Parts, Key, full_of, scope_of, AreKeys, IsPlace, ArePlaces}

-- what is held by keys, with their full names
abbrev pub by_names : {M : Type 0} → Parts → List (Key × M) → List (List ℕ × M)
by_names parts held = map (λ e. (full_of parts e.0, e.1)) held

-- every key by which something is held is that of its full name
abbrev pub AllKeys : {M : Type 0} → Parts → List (Key × M) → Type 0
AllKeys parts held = AreKeys parts (map (λ e. e.0) held)

-- ---- lines

-- the numbers of the scopes in which a name of a scope is found
abbrev pub line_at : ℕ → List (ℕ × List ℕ) → List ℕ
line_at place lines = unwrap_or (lookup (λ k. place == k) lines) (place ∷ [])

-- a line with a scope after it, unless the scope is there
abbrev pub added_place : ℕ → List ℕ → List ℕ
added_place place line = if list_any (λ k. k == place) line then line else line ++ place ∷ []

-- a line with more scopes after it, each once
abbrev pub joined_places : List ℕ → List ℕ → List ℕ
joined_places line [] = line
joined_places line (place ∷ places) = joined_places (added_place place line) places

-- lines with the prefixes of their scopes
abbrev pub by_lines : Parts → List (ℕ × List ℕ) → List (List ℕ × List (List ℕ))
by_lines parts lines = map (λ l. (scope_of parts l.0, map (scope_of parts) l.1)) lines

-- every number in lines is that of a scope
abbrev pub AreLines : Parts → List (ℕ × List ℕ) → Type 0
AreLines parts [] = Unit {0}
AreLines parts (l ∷ lines) = IsPlace parts l.0 × ArePlaces parts l.1 × AreLines parts lines

-- ---- places

-- the prefixes of the scopes around a place, of which the innermost is last
abbrev pub scopes_around : List Around → List (List ℕ)
scopes_around env = reverse (map (λ a. a.scope) env)

-- every scope around a place has its number
abbrev pub AreAround : Parts → List Around → Type 0
AreAround parts [] = Unit {0}
AreAround parts (a ∷ env) = IsPlace parts a.place × (scope_of parts a.place ≡ a.scope) × AreAround parts env

-- ---- all

-- names by what is held of them
abbrev pub names_by : Parts → List (Key × Meaning) → List (Key × Unit {0}) → List (ℕ × List ℕ) → List Around → Names
names_by parts table folded lines env = record {
  meanings = by_names parts table;
  folded = map (λ e. e.0) (by_names parts folded);
  lines = by_lines parts lines;
  env = scopes_around env;
}

-- what is held is held by keys of full names, and by numbers of scopes
pub record AreHeld (parts : Parts) (table : List (Key × Meaning)) (folded : List (Key × Unit {0})) (lines : List (ℕ × List ℕ))
    (env : List Around) : Type 0 where
  pub table_keys : AllKeys parts table
  pub folded_keys : AllKeys parts folded
  pub line_places : AreLines parts lines
  pub around : AreAround parts env

-- names, and the parts of what is held of them
pub record Stored : Type 0 where
  pub parts : Parts
  pub names : Names

-- what is found by a key, with its full name
abbrev pub entry_of : Parts → Found → Entry
entry_of parts f = record { name = full_of parts f.key; meaning = f.meaning }
