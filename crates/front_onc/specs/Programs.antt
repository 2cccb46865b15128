-- The interfaces that programs make.
use Rattle.std.specs.Prelude.{Bool, true, false, nat_le, nat_eq, ◌&&◌, ◌||◌, ◌==◌, ℕ, ◌+◌, ◌*◌, List, [], ◌∷◌, ◌++◌, length, codes, Option, Some, None, Ok, if◌then◌else◌}
use Rattle.std.specs.List.{list_any}
use Rattle.std.specs.Str.{bytes_eq}
use Rattle.std.specs.Fmt.{decimal}
use Rattle.kit_base.specs.Limits.{most_interfaces, most_operations}
use Rattle.mint.specs.declared.kind.Count.TheVariants.{Any}
use Rattle.aoi.specs.declared.faults.NameFault.TheVariants.{Limit, OutOfScope, Twice}
use Rattle.aoi.specs.Shapes.{Shape, void, text, no_more, members_of}
use Rattle.aoi.specs.Plain.{PlainInterface, PlainOperation}
use Rattle.onc_syntax.specs.declared.tree.Value.{Value}
use Rattle.onc_syntax.specs.declared.tree.ProcType.{ProcType}
use Rattle.onc_syntax.specs.declared.tree.ProcType.TheVariants as P
use Rattle.onc_syntax.specs.declared.tree.Procedure.{Procedure}
use Rattle.onc_syntax.specs.declared.tree.Version.{Version}
use Rattle.idl_names.specs.Names.{has, is_declared}
use Rattle.idl_names.specs.Uses.{shape_of_use}
use Rattle.front_onc.specs.declared.meaning.Meaning.TheVariants as M
use Rattle.idl_names.specs.Answers.{Answer, fault, and_then, given, refused, natural}
use Rattle.front_onc.specs.Names.{Scope, value, type_use}
use Rattle.front_onc.specs.State.{State, counted, declared}

-- the number of a program, a version or a procedure
abbrev pub number_of : Scope → ℕ → Value → Answer ℕ
number_of scope d v = and_then (value scope d v) (natural 0 d)

-- ---- procedures

-- the type of a result
abbrev pub result_of : Scope → ℕ → ProcType → Answer Shape
result_of scope d P.Void = Ok void
result_of scope d P.Text = Ok (text Any)
result_of scope d (P.Plain t) = and_then (type_use scope d t) (λ u. Ok (shape_of_use u))

-- void among several is none
abbrev pub parameter : Scope → ℕ → ProcType → Answer Shape
parameter scope d P.Void = fault OutOfScope d
parameter scope d P.Text = Ok (text Any)
parameter scope d (P.Plain t) = and_then (type_use scope d t) (λ u. Ok (shape_of_use u))

-- arg1, arg2 and so on
abbrev pub argument : ℕ → List ℕ
argument n = codes "arg" ++ decimal n

-- parameters after those before them
abbrev pub parameters_on : Scope → ℕ → List (List ℕ × Shape) → List ProcType → Answer (List (List ℕ × Shape))
parameters_on scope d fields [] = Ok fields
parameters_on scope d fields (p ∷ ps) = and_then (parameter scope d p)
    (λ s. parameters_on scope d (fields ++ (argument (length fields + 1), s) ∷ []) ps)

-- void alone
abbrev pub is_void : List ProcType → Bool
is_void (P.Void ∷ []) = true
is_void _ = false

-- void alone is not a parameter
abbrev pub parameters : Scope → ℕ → List ProcType → Answer (List (List ℕ × Shape))
parameters scope d ps = if is_void ps then Ok [] else parameters_on scope d [] ps

-- the names and numbers of the procedures so far, and their operations
pub record Procedures : Type 0 where
  pub names : List (List ℕ)
  pub numbers : List ℕ
  pub ops : List PlainOperation

-- the operation of a procedure: it has no outs and raises nothing
abbrev pub operation : ℕ → List ℕ → ℕ → List (List ℕ × Shape) → Shape → PlainOperation
operation slot name n ins result = record {
  name = name;
  proc_no = n;
  slot = slot;
  ins = members_of ins;
  outs = no_more;
  result = result;
  raises = [];
  oneway = false;
}

-- a procedure after the others: its slot is its place
abbrev pub procedure_on : Scope → ℕ → Procedures → Procedure → Answer Procedures
procedure_on scope d ps p =
    and_then (result_of scope d p.result) (λ result.
    and_then (refused Twice d (has p.name ps.names)) (λ _.
    and_then (refused Limit d (nat_le most_operations (length ps.ops))) (λ _.
    and_then (parameters scope d p.parameters) (λ ins.
    and_then (number_of scope d p.number) (λ n.
    and_then (refused Twice d (list_any (nat_eq n) ps.numbers)) (λ _.
    Ok (record {
      names = ps.names ++ p.name ∷ [];
      numbers = ps.numbers ++ n ∷ [];
      ops = ps.ops ++ operation (length ps.ops) p.name n ins result ∷ [];
    })))))))

-- procedures after those before them, each a declaration
abbrev pub procedures_on : State → Procedures → List Procedure → Answer (State × Procedures)
procedures_on s ps [] = Ok (s, ps)
procedures_on s ps (p ∷ rest) = and_then (procedure_on s.scope (s.count + 1) ps p) (λ ps. procedures_on (counted s) ps rest)

-- the operations of a version
abbrev pub operations : State → List Procedure → Answer (State × List PlainOperation)
operations s list = and_then (procedures_on s (record { names = []; numbers = []; ops = [] }) list) (λ r. Ok (r.0, r.1.ops))

-- ---- versions

-- the interface of a program's version, by its place among all
abbrev pub interface : ℕ → List ℕ → ℕ → List ℕ → ℕ → List PlainOperation → PlainInterface
interface place program number name version ops = record {
  name = program ++ codes "." ++ name;
  program = number;
  version = version;
  base = 1000 * (place + 1);
  slots = length ops;
  ops = ops;
}

-- two of one name, or of one program and version
abbrev pub are_twins : PlainInterface → PlainInterface → Bool
are_twins i j = bytes_eq i.name j.name || (i.program == j.program && i.version == j.version)

-- an interface after the others
abbrev pub offered : ℕ → PlainInterface → State → Answer State
offered d i s =
    and_then (refused Twice d (list_any (λ j. are_twins j i) s.interfaces)) (λ _.
    Ok (record s { interfaces = s.interfaces ++ i ∷ []; versions = s.versions + 1 }))

-- the interface of a version, unless the program's number is wrong
abbrev pub version_offered : ℕ → List ℕ → Option ℕ → List ℕ → ℕ → List PlainOperation → State → Answer State
version_offered d program None name version ops s = Ok (record s { versions = s.versions + 1 })
version_offered d program (Some n) name version ops s = offered d (interface s.versions program n name version ops) s

-- a version is an interface after its own number
abbrev pub version_on : ℕ → List ℕ → Option ℕ → List (List ℕ) → State → Version → Answer State
version_on d program number names s v =
    and_then (refused Twice d (has v.name names)) (λ _.
    and_then (refused Limit d (nat_le most_interfaces s.versions)) (λ _.
    and_then (operations s v.procedures) (λ r.
    and_then (number_of r.0.scope d v.number) (λ n.
    version_offered d program number v.name n r.1 r.0))))

-- versions after those before them, each a declaration
abbrev pub versions_on : List ℕ → Option ℕ → List (List ℕ) → State → List Version → Answer State
versions_on program number names s [] = Ok s
versions_on program number names s (v ∷ vs) =
    and_then (version_on (s.count + 1) program number names (counted s) v) (λ s. versions_on program number (names ++ v.name ∷ []) s vs)

-- ---- programs

-- its number follows its versions
abbrev pub program_with : List ℕ → Answer ℕ → State → List Version → Answer State
program_with name number s versions =
    and_then (versions_on name (given number) [] s versions) (λ s.
    and_then number (λ n.
    Ok (declared name M.Program s)))

-- what a program makes of a state
abbrev pub program_on : ℕ → State → List ℕ → List Version → Value → Answer State
program_on d s name versions v = and_then (refused Twice d (is_declared name s.scope))
    (λ _. program_with name (number_of s.scope d v) s versions)
