-- The operations that routines make.
use Rattle.std.specs.Prelude.{Bool, true, false, not, ◌&&◌, nat_le, ℕ, ◌+◌, List, [], ◌∷◌, ◌++◌, length, Option, Some, Ok}
use Rattle.kit_base.specs.Limits.{most_operations}
use Rattle.aoi.specs.declared.faults.NameFault.TheVariants.{Twice, Limit, Oneway, Port}
use Rattle.aoi.specs.Shapes.{Shape, void, members_of}
use Rattle.aoi.specs.Plain.{PlainOperation}
use Rattle.mig_syntax.specs.declared.tree.Direction.{Direction}
use Rattle.mig_syntax.specs.declared.tree.Direction.TheVariants as D
use Rattle.mig_syntax.specs.declared.tree.Parameter.{Parameter}
use Rattle.mig_syntax.specs.declared.tree.Routine.{Routine}
use Rattle.idl_names.specs.declared.uses.Use.{Use}
use Rattle.front_mig.specs.declared.meaning.Meaning.{Meaning}
use Rattle.front_mig.specs.declared.meaning.Meaning.TheVariants as M
use Rattle.idl_names.specs.Answers.{Answer, fault, and_then, refused}
use Rattle.idl_names.specs.Names.{has}
use Rattle.idl_names.specs.Uses.{shape_of_use}
use Rattle.front_mig.specs.Types.{Scope, type_of, data_in}
use Rattle.front_mig.specs.State.{State, skip_on}

-- ---- directions

-- a parameter without a word goes in
abbrev pub goes_in : Option Direction → Bool
goes_in (Some D.Out) = false
goes_in _ = true

abbrev pub comes_out : Option Direction → Bool
comes_out (Some D.Out) = true
comes_out (Some D.InOut) = true
comes_out _ = false

abbrev pub is_requestport : Option Direction → Bool
is_requestport (Some D.RequestPort) = true
is_requestport _ = false

-- ---- parameters

-- parameters by their names, each with its type
abbrev pub Fields : Type 0
Fields = List (List ℕ × Shape)

-- the names of all parameters, and those that go in and that come out
pub record Parameters : Type 0 where
  pub names : List (List ℕ)
  pub ins : Fields
  pub outs : Fields

abbrev pub is_port : Meaning → Bool
is_port M.Port = true
is_port (M.Data u) = false

-- the first parameter is a port, which no message body has
abbrev pub port_on : Scope → ℕ → Bool → Parameter → Answer Parameters
port_on scope d simple p =
    and_then (refused Oneway d (simple && comes_out p.direction)) (λ _.
    and_then (type_of scope d p.of) (λ m.
    and_then (refused Port d (not (is_port m))) (λ _.
    Ok (record { names = p.name ∷ []; ins = []; outs = [] }))))

-- a field after the others, where one is wanted
abbrev pub with_field : Bool → List ℕ → Use → Fields → Fields
with_field true name u fields = fields ++ (name, shape_of_use u) ∷ []
with_field false name u fields = fields

-- a parameter after others
abbrev pub parameter_on : Scope → ℕ → Bool → Parameters → Parameter → Answer Parameters
parameter_on scope d simple ps p =
    and_then (refused Oneway d (simple && comes_out p.direction)) (λ _.
    and_then (refused Port d (is_requestport p.direction)) (λ _.
    and_then (refused Twice d (has p.name ps.names)) (λ _.
    and_then (type_of scope d p.of) (λ m.
    and_then (data_in d m) (λ u.
    Ok (record {
      names = ps.names ++ p.name ∷ [];
      ins = with_field (goes_in p.direction) p.name u ps.ins;
      outs = with_field (comes_out p.direction) p.name u ps.outs;
    }))))))

-- parameters after those before them
abbrev pub parameters_on : Scope → ℕ → Bool → Parameters → List Parameter → Answer Parameters
parameters_on scope d simple ps [] = Ok ps
parameters_on scope d simple ps (p ∷ rest) = and_then (parameter_on scope d simple ps p) (λ ps. parameters_on scope d simple ps rest)

-- what goes in and what comes out of a routine, whose first parameter is a port
abbrev pub parameters : Scope → ℕ → Bool → List Parameter → Answer (Fields × Fields)
parameters scope d simple [] = fault Port d
parameters scope d simple (p ∷ rest) =
    and_then (port_on scope d simple p) (λ ps.
    and_then (parameters_on scope d simple ps rest) (λ ps.
    Ok (ps.ins, ps.outs)))

-- ---- routines

-- the operation of a routine: it returns nothing and raises nothing
abbrev pub operation : ℕ → ℕ → List ℕ → Bool → Fields → Fields → PlainOperation
operation place slot name simple ins outs = record {
  name = name;
  proc_no = place + 1;
  slot = slot;
  ins = members_of ins;
  outs = members_of outs;
  result = void;
  raises = [];
  oneway = simple;
}

-- a routine after the others
abbrev pub with_routine : List ℕ → PlainOperation → State → State
with_routine name op s = record s { names = s.names ++ name ∷ []; ops = s.ops ++ op ∷ [] }

-- a routine takes the next message id
abbrev pub routine_on : ℕ → ℕ → State → Routine → Answer State
routine_on d base s r =
    and_then (refused Twice d (has r.name s.names)) (λ _.
    and_then (skip_on d base s) (λ t.
    and_then (refused Limit d (nat_le most_operations (length s.ops))) (λ _.
    and_then (parameters s.scope d r.simple r.parameters) (λ f.
    Ok (with_routine r.name (operation (length s.ops) s.slots r.name r.simple f.0 f.1) t)))))
