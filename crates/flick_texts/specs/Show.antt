-- The text of a unit: a line for each type, for each interface, and for each of its operations.
use Rattle.std.specs.Prelude.{ℕ, Bool, true, false, List, [], ◌∷◌, ◌++◌, codes}
use Rattle.aoi.specs.Shapes.{Shape}
use Rattle.aoi.specs.Plain.{PlainRaise, PlainOperation, PlainInterface, PlainUnit}
use Rattle.flick_texts.specs.TypeText.{numbered, type_text, parameters_text, names_of}

-- the line of a type
abbrev pub type_line : List (List ℕ) → List ℕ × Shape → List ℕ → List ℕ
type_line names t rest = codes "type " ++ (t.0 ++ (codes " = " ++ type_text names t.1 (codes "\n" ++ rest)))

-- the lines of types
abbrev pub type_lines : List (List ℕ) → List (List ℕ × Shape) → List ℕ → List ℕ
type_lines names [] rest = rest
type_lines names (t ∷ types) rest = type_line names t (type_lines names types rest)

-- the names of exceptions, each after its mark
abbrev pub raises_text : List ℕ → List PlainRaise → List ℕ → List ℕ
raises_text mark [] rest = rest
raises_text mark (r ∷ raises) rest = mark ++ (r.name ++ raises_text (codes ", ") raises rest)

-- a word for an operation without reply
abbrev pub oneway_text : Bool → List ℕ → List ℕ
oneway_text true rest = codes " oneway" ++ rest
oneway_text false rest = rest

-- an operation's name, and its numbers
abbrev pub operation_head : PlainOperation → List ℕ → List ℕ
operation_head o rest = codes "op " ++ (o.name ++ numbered (codes " proc ") o.proc_no (numbered (codes " slot ") o.slot rest))

-- the types of the parameters that go in, and those of the result and the parameters that come out
abbrev pub operation_types : List (List ℕ) → PlainOperation → List ℕ → List ℕ
operation_types names o rest =
    codes " (" ++ parameters_text names [] o.ins (codes ") -> ("
    ++ type_text names o.result (parameters_text names (codes ", ") o.outs (codes ")" ++ rest)))

-- the line of an operation
abbrev pub operation_line : List (List ℕ) → PlainOperation → List ℕ → List ℕ
operation_line names o rest =
    operation_head o (operation_types names o (raises_text (codes " raises ") o.raises (oneway_text o.oneway (codes "\n" ++ rest))))

-- the lines of operations
abbrev pub operation_lines : List (List ℕ) → List PlainOperation → List ℕ → List ℕ
operation_lines names [] rest = rest
operation_lines names (o ∷ ops) rest = operation_line names o (operation_lines names ops rest)

-- the line of an interface: its name, and its numbers
abbrev pub interface_line : PlainInterface → List ℕ → List ℕ
interface_line i rest =
    codes "interface " ++ (i.name ++ numbered (codes " program ") i.program
    (numbered (codes " version ") i.version (numbered (codes " base ") i.base (codes "\n" ++ rest))))

-- the lines of interfaces, each with those of its operations
abbrev pub interface_lines : List (List ℕ) → List PlainInterface → List ℕ → List ℕ
interface_lines names [] rest = rest
interface_lines names (i ∷ is) rest = interface_line i (operation_lines names i.ops (interface_lines names is rest))

-- the text of a unit
abbrev pub show_text : PlainUnit → List ℕ
show_text u = type_lines (names_of u.types) u.types (interface_lines (names_of u.types) u.interfaces [])
