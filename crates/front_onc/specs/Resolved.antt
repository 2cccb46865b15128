-- The unit of a file, or its first fault.
use Rattle.std.specs.Prelude.{Bool, true, false, IsTrue, ℕ, ◌+◌, List, [], ◌∷◌, Ok}
use Rattle.std.specs.List.{list_all}
use Rattle.aoi.specs.Plain.{PlainUnit}
use Rattle.aoi.specs.declared.faults.NameFault.TheVariants.{Twice}
use Rattle.onc_syntax.specs.declared.tree.Value.{Value}
use Rattle.onc_syntax.specs.declared.tree.Case.{Case}
use Rattle.onc_syntax.specs.declared.tree.Def.{Def}
use Rattle.onc_syntax.specs.declared.tree.Def.TheVariants as D
use Rattle.front_onc.specs.declared.meaning.Meaning.TheVariants as M
use Rattle.idl_names.specs.Answers.{Answer, and_then, refused}
use Rattle.idl_names.specs.Lists.{is_some_list}
use Rattle.idl_names.specs.Names.{is_declared}
use Rattle.front_onc.specs.Names.{known, value}
use Rattle.front_onc.specs.State.{State, counted, declared}
use Rattle.front_onc.specs.Declarations.{typedef, struct_on}
use Rattle.front_onc.specs.Enums.{enum_on}
use Rattle.front_onc.specs.Unions.{union_on}
use Rattle.front_onc.specs.Programs.{program_on}

-- a name with the number of a value
abbrev pub const_on : ℕ → State → List ℕ → Value → Answer State
const_on d s name v = and_then (refused Twice d (is_declared name s.scope))
    (λ _. and_then (value s.scope d v) (λ n. Ok (declared name (M.Constant n) s)))

-- what is declared after a definition, by its number
abbrev pub defined : ℕ → State → Def → Answer State
defined d s (D.Typedef decl) = typedef d s decl
defined d s (D.Const name v) = const_on d s name v
defined d s (D.Program name versions v) = program_on d s name versions v
defined d s (D.Enum name items) = enum_on d s name items
defined d s (D.Struct name members) = struct_on d s name members
defined d s (D.Union u) = union_on d s u

-- definitions after what is declared, each a declaration
abbrev pub defined_on : State → List Def → Answer State
defined_on s [] = Ok s
defined_on s (x ∷ xs) = and_then (defined (s.count + 1) (counted s) x) (λ s. defined_on s xs)

-- what is declared before the first definition
abbrev pub start : State
start = record { scope = known; labels = []; types = []; interfaces = []; versions = 0; count = 0 }

-- the unit of a file, or its first fault
abbrev pub resolved : List Def → Answer PlainUnit
resolved tree = and_then (defined_on start tree) (λ s. Ok (record { types = s.types; interfaces = s.interfaces }))

-- ---- what the grammar sees to

-- cases of which the first has a label
abbrev pub has_label : List Case → Bool
has_label [] = false
has_label (c ∷ cs) = is_some_list c.labels

-- an enum has an item, a struct a member, and a union a label
abbrev pub is_whole : Def → Bool
is_whole (D.Enum name items) = is_some_list items
is_whole (D.Struct name members) = is_some_list members
is_whole (D.Union u) = has_label u.cases
is_whole _ = true

-- a file whose definitions are not empty, as each is that the grammar gives
abbrev pub IsWhole : List Def → Type 0
IsWhole tree = IsTrue (list_all is_whole tree)
