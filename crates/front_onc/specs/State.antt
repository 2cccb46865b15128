-- What is declared so far.
use Rattle.std.specs.Prelude.{ℕ, ◌+◌, ℤ, List, [], ◌∷◌, ◌++◌, length}
use Rattle.aoi.specs.Shapes.{Shape}
use Rattle.aoi.specs.Plain.{PlainInterface}
use Rattle.idl_names.specs.declared.uses.Tag.{Tag}
use Rattle.idl_names.specs.declared.uses.Use.TheVariants.{Declared}
use Rattle.front_onc.specs.declared.meaning.Meaning.{Meaning}
use Rattle.front_onc.specs.declared.meaning.Meaning.TheVariants as M
use Rattle.front_onc.specs.Names.{Scope}

-- what is declared so far: the names; the numbers of the enums, each after its enum's number as a type; the types with their names; the interfaces, how many versions they are, and how many declarations
pub record State : Type 0 where
  pub scope : Scope
  pub labels : List (ℕ × ℤ)
  pub types : List (List ℕ × Shape)
  pub interfaces : List PlainInterface
  pub versions : ℕ
  pub count : ℕ

-- the next declaration
abbrev pub counted : State → State
counted s = record s { count = s.count + 1 }

-- one more name
abbrev pub declared : List ℕ → Meaning → State → State
declared name m s = record s { scope = s.scope ++ (name, m) ∷ [] }

-- a type after the others, and its name
abbrev pub with_type : List ℕ → Shape → Tag → State → State
with_type name shape tag s = record s {
  types = s.types ++ (name, shape) ∷ [];
  scope = s.scope ++ (name, M.Type (Declared (length s.types) tag)) ∷ [];
}
