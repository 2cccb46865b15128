-- What the operations of a unit are in messages: the id of a request, and whether a reply is awaited.
use Rattle.std.specs.Prelude.{ℕ, ◌+◌, true, not, List, map, flat_map, slice_index_or}
use Rattle.aoi.specs.Plain.{PlainInterface, PlainOperation}
use Rattle.pres.specs.Bindings.{Binding}
use Rattle.back_mach.specs.declared.routines.Routine.{Routine}

-- the id is the interface's base plus the operation's slot; a reply is awaited, but of what is oneway
abbrev pub routine_in : PlainInterface → PlainOperation → Routine
routine_in i op = record { id = i.base + op.slot; wants = not op.oneway }

-- the operations of an interface
abbrev pub ops_of : PlainInterface → List PlainOperation
ops_of i = i.ops

-- those of an interface
abbrev pub routines_in : PlainInterface → List Routine
routines_in i = map (routine_in i) i.ops

-- those of interfaces, in the order of the operations that they offer
abbrev pub routines : List PlainInterface → List Routine
routines is = flat_map routines_in is

-- the routine of a number that no operation has
abbrev pub no_routine : Routine
no_routine = record { id = 0; wants = true }

-- the routine of an operation
abbrev pub routine_of : Binding → ℕ → Routine
routine_of b op = slice_index_or (routines b.unit.interfaces) op no_routine
