-- What is declared so far.
use Rattle.std.specs.Prelude.{ℕ, ◌+◌, ℤ, List, [], ◌∷◌, ◌++◌, length, Option, Ok}
use Rattle.mint.specs.declared.kind.Count.{Count}
use Rattle.aoi.specs.Shapes.{Shape}
use Rattle.aoi.specs.Plain.{PlainRaise}
use Rattle.idl_names.specs.declared.uses.Tag.{Tag}
use Rattle.idl_names.specs.declared.uses.Use.TheVariants.{Declared}
use Rattle.idl_names.specs.Answers.{Answer, and_then}
use Rattle.corba_scopes.specs.declared.meanings.Meaning.TheVariants as M
use Rattle.corba_scopes.specs.Names.{Names, nothing, here, declared_on}

-- what is declared so far: the names; the numbers of the items of enums, each after the number of its enum among the
-- types; the types with their full names; the exceptions; and how many declarations have begun
pub record State : Type 0 where
  pub names : Names
  pub labels : List (ℕ × ℤ)
  pub types : List (List ℕ × Shape)
  pub exceptions : List PlainRaise
  pub count : ℕ

-- what is declared before the first declaration
abbrev pub start : State
start = record { names = nothing; labels = []; types = []; exceptions = []; count = 0 }

-- the next declaration
abbrev pub counted : State → State
counted s = record s { count = s.count + 1 }

-- one more type, by its name in the innermost of the scopes around the place; and how long it is, where it is a string
abbrev pub with_type : ℕ → List ℕ → Shape → Tag → Option Count → State → Answer State
with_type d name shape tag text s =
    and_then (declared_on d s.names name (M.Type (Declared (length s.types) tag) text)) (λ names.
    Ok (record s { names = names; types = s.types ++ (here s.names ++ name, shape) ∷ [] }))
