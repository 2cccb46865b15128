-- The types that declarations and structs make.
use Rattle.std.specs.Prelude.{Bool, ℕ, List, [], ◌∷◌, ◌++◌, map, Option, Some, None, Ok}
use Rattle.mint.specs.declared.kind.Kind.TheVariants as kind
use Rattle.mint.specs.declared.kind.Count.{Count}
use Rattle.mint.specs.declared.kind.Count.TheVariants.{Exactly, AtMost, Any}
use Rattle.aoi.specs.declared.faults.NameFault.TheVariants.{Twice}
use Rattle.aoi.specs.Shapes.{Shape, number, text, array, structure, optional, members_of}
use Rattle.onc_syntax.specs.declared.tree.Value.{Value}
use Rattle.onc_syntax.specs.declared.tree.Decl.{Decl}
use Rattle.onc_syntax.specs.declared.tree.Decl.TheVariants as D
use Rattle.onc_syntax.specs.declared.tree.Member.{Member}
use Rattle.idl_names.specs.declared.uses.Tag.{Tag}
use Rattle.idl_names.specs.declared.uses.Tag.TheVariants as tag
use Rattle.idl_names.specs.Names.{has, is_declared}
use Rattle.front_onc.specs.declared.meaning.Form.{Form}
use Rattle.front_onc.specs.declared.meaning.Form.TheVariants as F
use Rattle.idl_names.specs.Answers.{Answer, and_then, refused, natural}
use Rattle.idl_names.specs.Uses.{shape_of_use, tag_of_use}
use Rattle.front_onc.specs.Names.{Scope, value, type_use}
use Rattle.front_onc.specs.State.{State, with_type}

-- the name that a declaration declares
abbrev pub name_of : Decl → List ℕ
name_of (D.Plain t n) = n
name_of (D.Array t n v) = n
name_of (D.List t n v) = n
name_of (D.Pointer t n) = n
name_of (D.OpaqueArray n v) = n
name_of (D.OpaqueList n v) = n
name_of (D.Text n v) = n

-- a length, from 1
abbrev pub exactly : Scope → ℕ → Value → Answer Count
exactly scope d v = and_then (value scope d v) (λ n. and_then (natural 1 d n) (λ n. Ok (Exactly n)))

-- a bound, from 0, or none
abbrev pub at_most : Scope → ℕ → Option Value → Answer Count
at_most scope d None = Ok Any
at_most scope d (Some v) = and_then (value scope d v) (λ n. and_then (natural 0 d n) (λ n. Ok (AtMost n)))

-- what a declaration makes of its type, where its name may be taken
abbrev pub form : Scope → ℕ → Bool → Decl → Answer Form
form scope d taken (D.Plain t n) = and_then (type_use scope d t) (λ u. and_then (refused Twice d taken) (λ _. Ok (F.Plain u)))
form scope d taken (D.Array t n v) = and_then (type_use scope d t)
    (λ u. and_then (refused Twice d taken) (λ _. and_then (exactly scope d v) (λ c. Ok (F.Array u c))))
form scope d taken (D.List t n v) = and_then (type_use scope d t)
    (λ u. and_then (refused Twice d taken) (λ _. and_then (at_most scope d v) (λ c. Ok (F.Array u c))))
form scope d taken (D.Pointer t n) = and_then (type_use scope d t) (λ u. and_then (refused Twice d taken) (λ _. Ok (F.Optional u)))
form scope d taken (D.OpaqueArray n v) = and_then (refused Twice d taken) (λ _. and_then (exactly scope d v) (λ c. Ok (F.Opaque c)))
form scope d taken (D.OpaqueList n v) = and_then (refused Twice d taken) (λ _. and_then (at_most scope d v) (λ c. Ok (F.Opaque c)))
form scope d taken (D.Text n v) = and_then (refused Twice d taken) (λ _. and_then (at_most scope d v) (λ c. Ok (F.Text c)))

-- the plain tree of the type that a declaration makes
abbrev pub shape : Form → Shape
shape (F.Plain u) = shape_of_use u
shape (F.Array u c) = array (shape_of_use u) c
shape (F.Optional u) = optional (shape_of_use u)
shape (F.Opaque c) = array (number kind.Octet) c
shape (F.Text c) = text c

-- what the type of a declaration is as the tag of a union
abbrev pub tag_of : Form → Tag
tag_of (F.Plain u) = tag_of_use u
tag_of _ = tag.Other

-- the type of a typedef has the name
abbrev pub typedef : ℕ → State → Decl → Answer State
typedef d s decl = and_then (form s.scope d (is_declared (name_of decl) s.scope) decl)
    (λ f. Ok (with_type (name_of decl) (shape f) (tag_of f) s))

-- ---- structs

-- members after those before them
abbrev pub members_on : Scope → ℕ → List (List ℕ × Shape) → List Member → Answer (List (List ℕ × Shape))
members_on scope d fields [] = Ok fields
members_on scope d fields (m ∷ ms) = and_then (form scope d (has (name_of m.decl) (map (λ f. f.0) fields)) m.decl)
    (λ f. members_on scope d (fields ++ (name_of m.decl, shape f) ∷ []) ms)

-- a type with the members as its fields; its name is declared after them
abbrev pub struct_on : ℕ → State → List ℕ → List Member → Answer State
struct_on d s name members =
    and_then (refused Twice d (is_declared name s.scope)) (λ _.
    and_then (members_on s.scope d [] members) (λ fields.
    Ok (with_type name (structure (members_of fields)) tag.Other s)))
