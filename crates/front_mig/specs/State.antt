-- What is declared so far.
use Rattle.std.specs.Prelude.{ℕ, ◌+◌, not, List, [], ◌∷◌, ◌++◌, length, Ok}
use Rattle.aoi.specs.declared.faults.NameFault.TheVariants.{Twice, Range}
use Rattle.aoi.specs.Shapes.{Shape, array}
use Rattle.aoi.specs.Plain.{PlainOperation}
use Rattle.mig_syntax.specs.declared.tree.TypeForm.{TypeForm}
use Rattle.idl_names.specs.declared.uses.Tag.{Tag}
use Rattle.idl_names.specs.declared.uses.Tag.TheVariants as tag
use Rattle.idl_names.specs.declared.uses.Use.TheVariants.{Declared}
use Rattle.front_mig.specs.declared.meaning.Meaning.{Meaning}
use Rattle.front_mig.specs.declared.meaning.Meaning.TheVariants as M
use Rattle.front_mig.specs.declared.meaning.Form.{Form}
use Rattle.front_mig.specs.declared.meaning.Form.TheVariants as F
use Rattle.idl_names.specs.Answers.{Answer, and_then, refused}
use Rattle.idl_names.specs.Names.{is_declared}
use Rattle.idl_names.specs.Uses.{shape_of_use, tag_of_use}
use Rattle.front_mig.specs.Numbers.{ids_fit}
use Rattle.front_mig.specs.Types.{Scope, form}

-- the names of types, and the types; the names of routines, and their operations; how many message ids are taken
pub record State : Type 0 where
  pub scope : Scope
  pub types : List (List ℕ × Shape)
  pub names : List (List ℕ)
  pub ops : List PlainOperation
  pub slots : ℕ

-- what is declared before the first statement
abbrev pub start : State
start = record { scope = []; types = []; names = []; ops = []; slots = 0 }

-- one more name of a type
abbrev pub declared : List ℕ → Meaning → State → State
declared name m s = record s { scope = s.scope ++ (name, m) ∷ [] }

-- a type after the others, and its name
abbrev pub with_type : List ℕ → Shape → Tag → State → State
with_type name shape tag s = record s {
  types = s.types ++ (name, shape) ∷ [];
  scope = s.scope ++ (name, M.Data (Declared (length s.types) tag)) ∷ [];
}

-- a port's type is in no message, so the unit has none
abbrev pub with_form : List ℕ → Form → State → State
with_form name F.Port s = declared name M.Port s
with_form name (F.Data u) s = with_type name (shape_of_use u) (tag_of_use u) s
with_form name (F.Row u c) s = with_type name (array (shape_of_use u) c) tag.Other s

-- a type; its name is declared after it
abbrev pub type_on : ℕ → State → List ℕ → TypeForm → Answer State
type_on d s name t = and_then (refused Twice d (is_declared name s.scope)) (λ _. and_then (form s.scope d t) (λ f. Ok (with_form name f s)))

-- one message id more
abbrev pub skip_on : ℕ → ℕ → State → Answer State
skip_on d base s = and_then (refused Range d (not (ids_fit base (s.slots + 1)))) (λ _. Ok (record s { slots = s.slots + 1 }))
