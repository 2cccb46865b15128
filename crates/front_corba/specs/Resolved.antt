-- The unit of a file, or its first fault.
use Rattle.std.specs.Prelude.{Bool, true, false, ◌&&◌, nat_le, IsTrue, ℕ, zero, suc, ◌+◌, ◌*◌, List, [], ◌∷◌, map, length, Option, Some, None, Ok, if◌then◌else◌}
use Rattle.std.specs.List.{list_all}
use Rattle.kit_base.specs.Limits.{most_interfaces, most_operations}
use Rattle.aoi.specs.Plain.{PlainOperation, PlainInterface, PlainUnit}
use Rattle.aoi.specs.Sound.{are_distinct}
use Rattle.idl_names.specs.Answers.{Answer, and_then}
use Rattle.corba_syntax.specs.declared.interface_tree.Export.{Export}
use Rattle.corba_syntax.specs.declared.interface_tree.Export.TheVariants as E
use Rattle.corba_syntax.specs.declared.definition_tree.Definition.{Definition, fold-Definition, out-Definition}
use Rattle.corba_syntax.specs.declared.definition_tree.Definition.TheOpen.{Definition-F, Module-F}
use Rattle.corba_syntax.specs.declared.definition_tree.Module.{Module, fold-Module, out-Module}
use Rattle.corba_scopes.specs.declared.meanings.Meaning.{Meaning}
use Rattle.corba_scopes.specs.declared.meanings.Meaning.TheVariants as M
use Rattle.corba_scopes.specs.Names.{Names, here, entered, left, declared_on}
use Rattle.corba_scopes.specs.Finding.{found, meaning}
use Rattle.corba_shapes.specs.Declarations.{declaration_on, is_whole}
use Rattle.front_corba.specs.State.{PlainOffer, PlainOffering, File, at_names, start, next}
use Rattle.front_corba.specs.Interfaces.{full_names, interface_on}

-- ---- modules

abbrev pub is_module_meaning : Meaning → Bool
is_module_meaning M.Module = true
is_module_meaning _ = false

-- a name is a module's
abbrev pub is_module : Option Meaning → Bool
is_module None = false
is_module (Some m) = is_module_meaning m

-- a module's name may stand for it again; else it is declared
abbrev pub begun_on : ℕ → Names → List ℕ → Answer Names
begun_on d s name = if is_module (meaning (found s (here s) name)) then Ok s else declared_on d s name M.Module

-- ---- definitions

-- what a file so far becomes, or its first fault
abbrev pub Walk : Type 0
Walk = File → Answer File

-- definitions after what is declared, each a declaration
abbrev pub walks_on : List Walk → Walk
walks_on [] s = Ok s
walks_on (w ∷ ws) s = and_then (w (next s)) (λ s. walks_on ws s)

-- a module: its name is declared at once, and what is defined in it belongs to its scope
abbrev pub module_level : Module-F Walk Walk → Walk
module_level m s =
    and_then (begun_on s.state.count s.state.names m.name.name) (λ names.
    and_then (walks_on m.definitions (at_names (entered m.name.name names) s)) (λ s.
    Ok (at_names (left s.state.names) s)))

abbrev pub definition_level : Definition-F Walk Walk → Walk
definition_level (Definition-F.Module m) = m
definition_level (Definition-F.Interface i) = λ s. interface_on s.state.count s i
definition_level (Definition-F.Declaration x) = λ s. and_then (declaration_on s.state.count s.state x) (λ t. Ok (record s { state = t }))

-- what a definition makes of a file so far
abbrev pub walk : Definition → Walk
walk = fold-Definition Walk Walk definition_level module_level

abbrev pub module_walk : Module → Walk
module_walk = fold-Module Walk Walk definition_level module_level

-- the same of definitions, in order
abbrev pub definitions_on : List Definition → Walk
definitions_on list = walks_on (map walk list)

-- ---- the unit

-- operations without the interfaces in which they are declared
abbrev pub operations_of : List PlainOffer → List PlainOperation
operations_of ops = map (λ o. o.operation) ops

-- an interface by its place: programs are numbered from 536,870,912 (0x20000000), message ids from 1,000, 2,000 and so on
abbrev pub interface : ℕ → PlainOffering → PlainInterface
interface place i = record {
  name = i.name;
  program = 536870912 + place;
  version = 1;
  base = 1000 * (place + 1);
  slots = length i.ops;
  ops = operations_of i.ops;
}

-- interfaces from a place on
abbrev pub interfaces : ℕ → List PlainOffering → List PlainInterface
interfaces place [] = []
interfaces place (i ∷ is) = interface place i ∷ interfaces (place + 1) is

-- the unit of what is declared
abbrev pub unit_of : File → PlainUnit
unit_of s = record { types = s.state.types; interfaces = interfaces 0 s.interfaces }

-- the unit of a file, or its first fault
abbrev pub resolved : List Definition → Answer PlainUnit
resolved tree = and_then (definitions_on tree start) (λ s. Ok (unit_of s))

-- interfaces that a unit has room for: at most 64, of different names, each with at most 256 operations
abbrev pub are_fit : List PlainOffering → Bool
are_fit is = nat_le (length is) most_interfaces && are_distinct (full_names is) && list_all (λ i. nat_le (length i.ops) most_operations) is

-- ---- what the grammar sees to

-- a struct of an export has a field, and an enum an item
abbrev pub is_whole_export : Export → Bool
is_whole_export (E.Declaration x) = is_whole x
is_whole_export _ = true

-- the same of a definition, over that of a definition in it
abbrev pub is_whole_level : (Definition → Bool) → Definition-F Definition Module → Bool
is_whole_level inner (Definition-F.Module m) = list_all inner (out-Module m).definitions
is_whole_level inner (Definition-F.Interface i) = list_all is_whole_export i.exports
is_whole_level inner (Definition-F.Declaration x) = is_whole x

-- structs have a field and enums an item, in a definition within so many levels
abbrev pub is_whole_definition : ℕ → Definition → Bool
is_whole_definition zero d = false
is_whole_definition (suc n) d = is_whole_level (is_whole_definition n) (out-Definition d)

-- the same of a definition of the file, which has 32 levels
unfoldable pub is_whole_outermost : Definition → Bool
is_whole_outermost = is_whole_definition 32

-- a file whose structs and enums are not empty and which has 32 levels at most, as each that the grammar gives
abbrev pub IsWhole : List Definition → Type 0
IsWhole tree = IsTrue (list_all is_whole_outermost tree)
