-- Structs and exceptions.
use Rattle.std.specs.Prelude.{ℕ, List, [], ◌∷◌, ◌++◌, map, length, codes, None, Ok}
use Rattle.aoi.specs.Shapes.{Members, structure, members_of}
use Rattle.aoi.specs.Plain.{PlainRaise}
use Rattle.idl_names.specs.declared.uses.Tag.TheVariants as tag
use Rattle.idl_names.specs.Answers.{Answer, and_then}
use Rattle.corba_decls.specs.declared.member_tree.Struct.{Struct}
use Rattle.corba_decls.specs.declared.member_tree.Exception.{Exception}
use Rattle.corba_scopes.specs.declared.meanings.Meaning.TheVariants as M
use Rattle.corba_scopes.specs.Names.{here, entered, left, clash, refused_by, declared_on}
use Rattle.corba_scopes.specs.Around.{slashed}
use Rattle.corba_shapes.specs.State.{State, with_type}
use Rattle.corba_shapes.specs.Fields.{members_on}

-- a type with the members as its fields; its name is tested where it is, and declared after them
abbrev pub struct_on : ℕ → State → Struct → Answer State
struct_on d s t =
    and_then (refused_by d (clash s.names t.name.name)) (λ _.
    and_then (members_on d (record { names = entered t.name.name s.names; fields = [] }) t.members) (λ b.
    with_type d t.name.name (structure (members_of b.fields)) tag.Other None (record s { names = left b.names })))

-- ---- exceptions

-- the repository id of a full name: `IDL:M/Bad:1.0`
abbrev pub repository : List ℕ → List ℕ
repository full = codes "IDL:" ++ map slashed full ++ codes ":1.0"

-- an exception by its full name
abbrev pub raised : List ℕ → Members → PlainRaise
raised full members = record { name = full; id = repository full; members = members }

-- an exception after the others; its name is tested where it is, and declared after its members
abbrev pub exception_on : ℕ → State → Exception → Answer State
exception_on d s e =
    and_then (refused_by d (clash s.names e.name.name)) (λ _.
    and_then (members_on d (record { names = entered e.name.name s.names; fields = [] }) e.members) (λ b.
    and_then (declared_on d (left b.names) e.name.name (M.Exception (length s.exceptions))) (λ names.
    Ok (record s { names = names; exceptions = s.exceptions ++ raised (here names ++ e.name.name) (members_of b.fields) ∷ [] }))))
