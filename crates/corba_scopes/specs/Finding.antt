-- How names are found: in a scope, in the bases of an interface, outwards, and by scoped names.
use Rattle.std.specs.Prelude.{Bool, true, false, ℕ, List, [], ◌∷◌, ◌++◌, Option, Some, None, if◌then◌else◌}
use Rattle.std.specs.Option.{option_or, option_map, unwrap_or}
use Rattle.idl_exprs.specs.declared.tree.Identifier.{Identifier}
use Rattle.idl_exprs.specs.declared.tree.ScopedName.{ScopedName}
use Rattle.idl_names.specs.Names.{has, meaning_of}
use Rattle.corba_scopes.specs.declared.meanings.Meaning.{Meaning}
use Rattle.corba_scopes.specs.Around.{prefix_of}
use Rattle.corba_scopes.specs.Names.{Names, here, put}

-- ---- the lines of interfaces

-- the scopes in which a name of a scope is found, in order: an interface's are its own and its bases', any other's is that alone
abbrev pub line_of : List ℕ → Names → List (List ℕ)
line_of scope s = unwrap_or (meaning_of scope s.lines) (scope ∷ [])

-- a line with a scope after it, unless the scope is there
abbrev pub added : List ℕ → List (List ℕ) → List (List ℕ)
added scope line = if has scope line then line else line ++ scope ∷ []

-- a line with more scopes after it, each once
abbrev pub joined : List (List ℕ) → List (List ℕ) → List (List ℕ)
joined line [] = line
joined line (scope ∷ scopes) = joined (added scope line) scopes

-- the names with the line of one more base after that of an interface's scope
abbrev pub with_base : List ℕ → List ℕ → Names → Names
with_base scope base s = record s { lines = put scope (joined (line_of scope s) (line_of base s)) s.lines }

-- ---- names

-- a full name, and what it stands for
pub record Entry : Type 0 where
  pub name : List ℕ
  pub meaning : Meaning

-- a full name with what it stands for, if it is declared
abbrev pub entry_at : Names → List ℕ → Option Entry
entry_at s full = option_map (λ m. record { name = full; meaning = m }) (meaning_of full s.meanings)

-- a name in the first of these scopes in which it is declared
abbrev pub first_in : Names → List ℕ → List (List ℕ) → Option Entry
first_in s name [] = None
first_in s name (scope ∷ scopes) = option_or (entry_at s (scope ++ name)) (first_in s name scopes)

-- a name in a scope or, where that is an interface's, in a base
abbrev pub found : Names → List ℕ → List ℕ → Option Entry
found s scope name = first_in s name (line_of scope s)

-- a name in the innermost of the scopes around a place in which it is found, the last of which is that of the file
abbrev pub sought : Names → List (List ℕ) → List ℕ → Option Entry
sought s [] name = found s [] name
sought s (scope ∷ env) name = option_or (found s scope name) (sought s env name)

-- identifiers after a name, each found in the scope into which what is before it leads
abbrev pub within : Names → Option Entry → List Identifier → Option Entry
within s None parts = None
within s (Some e) [] = Some e
within s (Some e) (part ∷ parts) = within s (found s (prefix_of e.name) part.name) parts

-- the first identifier of a scoped name: with `::` before it, it is one of the file
abbrev pub first : Names → Bool → List ℕ → Option Entry
first s true name = found s [] name
first s false name = sought s s.env name

-- identifiers that are a scoped name
abbrev pub parts_named : Names → Bool → List Identifier → Option Entry
parts_named s absolute [] = None
parts_named s absolute (part ∷ parts) = within s (first s absolute part.name) parts

-- what a scoped name names here, if it names something
abbrev pub named : Names → ScopedName → Option Entry
named s n = parts_named s n.absolute n.parts

-- what a name stands for, if it is declared
abbrev pub meaning : Option Entry → Option Meaning
meaning e = option_map (λ e. e.meaning) e

-- the names with one more base of the interface by this name here, if the base is declared
abbrev pub inheriting : List ℕ → Option Entry → Names → Names
inheriting name None s = s
inheriting name (Some base) s = with_base (prefix_of (here s ++ name)) (prefix_of base.name) s
