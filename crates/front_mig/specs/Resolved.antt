-- The unit of a file, or its first fault.
use Rattle.std.specs.Prelude.{ℕ, ◌+◌, List, [], ◌∷◌, Ok}
use Rattle.aoi.specs.Plain.{PlainInterface, PlainUnit}
use Rattle.mig_syntax.specs.declared.tree.Statement.{Statement}
use Rattle.mig_syntax.specs.declared.tree.Statement.TheVariants as V
use Rattle.mig_syntax.specs.declared.tree.Subsystem.{Subsystem}
use Rattle.idl_names.specs.Answers.{Answer, and_then}
use Rattle.front_mig.specs.Numbers.{base_of}
use Rattle.front_mig.specs.State.{State, start, type_on, skip_on}
use Rattle.front_mig.specs.Routines.{routine_on}

-- what is declared after a statement, by its number; prefixes and imports declare nothing
abbrev pub stated : ℕ → ℕ → State → Statement → Answer State
stated base d s (V.Type name t) = type_on d s name t
stated base d s (V.Routine r) = routine_on d base s r
stated base d s (V.Prefix side name) = Ok s
stated base d s (V.Import importer file) = Ok s
stated base d s V.Skip = skip_on d base s

-- statements after so many declarations, each a declaration
abbrev pub stated_on : ℕ → ℕ → State → List Statement → Answer State
stated_on base count s [] = Ok s
stated_on base count s (x ∷ xs) = and_then (stated base (count + 1) s x) (λ s. stated_on base (count + 1) s xs)

-- the one interface of a subsystem; over ONC it is version 1 of the first program without a number of its own
abbrev pub interface : List ℕ → ℕ → State → PlainInterface
interface name base s = record { name = name; program = 0x20000000; version = 1; base = base; slots = s.slots; ops = s.ops }

-- the unit of a subsystem
abbrev pub unit_of : List ℕ → ℕ → State → PlainUnit
unit_of name base s = record { types = s.types; interfaces = interface name base s ∷ [] }

-- the unit of a file, or its first fault; its `subsystem` line is the first declaration
abbrev pub resolved : Subsystem → Answer PlainUnit
resolved tree =
    and_then (base_of 1 tree.base) (λ base.
    and_then (stated_on base 1 start tree.statements) (λ s.
    Ok (unit_of tree.name base s)))
