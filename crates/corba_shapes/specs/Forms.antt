-- The types that are used.
use Rattle.std.specs.Prelude.{Bool, true, false, ℕ, List, [], ◌∷◌, ◌++◌, Option, Some, None, Ok, if◌then◌else◌}
use Rattle.mint.specs.declared.kind.Kind.{Kind}
use Rattle.mint.specs.declared.kind.Kind.TheVariants as kind
use Rattle.mint.specs.declared.kind.Count.{Count}
use Rattle.mint.specs.declared.kind.Count.TheVariants.{AtMost, Any}
use Rattle.aoi.specs.declared.faults.NameFault.TheVariants.{Unknown, NotType, OutOfScope}
use Rattle.aoi.specs.Shapes.{Shape, text, array, arrayed}
use Rattle.idl_names.specs.declared.uses.Tag.{Tag}
use Rattle.idl_names.specs.declared.uses.Tag.TheVariants as tag
use Rattle.idl_names.specs.declared.uses.Use.{Use}
use Rattle.idl_names.specs.declared.uses.Use.TheVariants.{Number}
use Rattle.idl_names.specs.Answers.{Answer, fault, and_then}
use Rattle.idl_names.specs.Uses.{shape_of_use, tag_of_use}
use Rattle.idl_exprs.specs.Trees.{Tree}
use Rattle.idl_exprs.specs.declared.tree.ScopedName.{ScopedName}
use Rattle.corba_decls.specs.declared.type_tree.Int.{Int}
use Rattle.corba_decls.specs.declared.type_tree.IntSize.{IntSize}
use Rattle.corba_decls.specs.declared.type_tree.IntSize.TheVariants.{Short, Long, LongLong}
use Rattle.corba_decls.specs.declared.type_tree.Simple.{Simple}
use Rattle.corba_decls.specs.declared.type_tree.Simple.TheVariants as S
use Rattle.corba_decls.specs.declared.type_tree.Base.{Base}
use Rattle.corba_decls.specs.declared.type_tree.Base.TheVariants as B
use Rattle.corba_scopes.specs.declared.meanings.Meaning.{Meaning}
use Rattle.corba_scopes.specs.declared.meanings.Meaning.TheVariants as M
use Rattle.corba_scopes.specs.Names.{Names}
use Rattle.corba_scopes.specs.Finding.{named, meaning}
use Rattle.corba_scopes.specs.Consts.{length_of}
use Rattle.corba_shapes.specs.declared.forms.Core.{Core}
use Rattle.corba_shapes.specs.declared.forms.Core.TheVariants as C
use Rattle.corba_shapes.specs.declared.forms.Form.{Form}

-- the number of an integer type: short has 16 bits, long 32 and long long 64
abbrev pub kind_of_size : Bool → IntSize → Kind
kind_of_size true Short = kind.U16
kind_of_size true Long = kind.U32
kind_of_size true LongLong = kind.U64
kind_of_size false Short = kind.I16
kind_of_size false Long = kind.I32
kind_of_size false LongLong = kind.I64

abbrev pub kind_of : Int → Kind
kind_of i = kind_of_size i.unsigned i.size

-- a number of a kind
abbrev pub number_core : Kind → Core
number_core k = C.Used (Number k) None

-- ---- names

-- the type of what a declared name stands for; and how long it is, where it is a string
abbrev pub type_of : ℕ → Meaning → Answer (Use × Option Count)
type_of d (M.Type u c) = Ok (u, c)
type_of d _ = fault NotType d

-- the same of what a name stands for, if it is declared
abbrev pub type_of_meaning : ℕ → Option Meaning → Answer (Use × Option Count)
type_of_meaning d None = fault Unknown d
type_of_meaning d (Some m) = type_of d m

-- the type that a scoped name stands for here
abbrev pub named_type : Names → ℕ → ScopedName → Answer (Use × Option Count)
named_type s d n = type_of_meaning d (meaning (named s n))

-- the same as one that is not a row
abbrev pub named_core : Names → ℕ → ScopedName → Answer Core
named_core s d n = and_then (named_type s d n) (λ t. Ok (C.Used t.0 t.1))

-- ---- types

-- char, boolean and octet are numbers; the other types of one word are left out
abbrev pub simple_core : ℕ → Simple → Answer Core
simple_core d S.Char = Ok (number_core kind.Char)
simple_core d S.Boolean = Ok (number_core kind.Bool)
simple_core d S.Octet = Ok (number_core kind.Octet)
simple_core d _ = fault OutOfScope d

-- how many elements a sequence may have, or characters a string: at most its bound, which is from 1, or any number
abbrev pub bounded : Names → ℕ → Option Tree → Answer Count
bounded s d None = Ok Any
bounded s d (Some e) = and_then (length_of s d e) (λ n. Ok (AtMost n))

-- a type that is not a sequence
abbrev pub base_core : Names → ℕ → Base → Answer Core
base_core s d (B.Simple w) = simple_core d w
base_core s d B.LongDouble = fault OutOfScope d
base_core s d (B.Int i) = Ok (number_core (kind_of i))
base_core s d (B.Name n) = named_core s d n
base_core s d (B.Text bound) = and_then (bounded s d bound) (λ c. Ok (C.Text c))

-- what does not stand in a sequence
abbrev pub single : Core → Form
single c = record { core = c; rows = [] }

-- a type: what its innermost sequence holds, and then each sequence around it
abbrev pub type_form : Names → ℕ → List (Option Tree) → Base → Answer Form
type_form s d [] b = and_then (base_core s d b) (λ c. Ok (single c))
type_form s d (x ∷ xs) b =
    and_then (type_form s d xs b) (λ f.
    and_then (bounded s d x) (λ c.
    Ok (record { core = f.core; rows = f.rows ++ c ∷ [] })))

-- ---- what they are

-- the plain tree of what is not a row
abbrev pub core_shape : Core → Shape
core_shape (C.Used u c) = shape_of_use u
core_shape (C.Text c) = text c

-- rows of rows, the innermost first
abbrev pub rowed : Shape → List Count → Shape
rowed s [] = s
rowed s (c ∷ cs) = rowed (array s c) cs

-- the plain tree of a type with the lengths of an array
abbrev pub form_shape : Form → List Count → Shape
form_shape f ns = arrayed (rowed (core_shape f.core) f.rows) ns

-- the lengths of an array that are kept, the outermost first
abbrev pub lengths_of : Option (Count × List Count) → List Count
lengths_of None = []
lengths_of (Some k) = k.0 ∷ k.1

-- a type with the lengths of an array is a row: a sequence or an array
abbrev pub is_row : List Count → List Count → Bool
is_row [] [] = false
is_row _ _ = true

-- what is not a row as the tag of a union
abbrev pub core_tag : Core → Tag
core_tag (C.Used u c) = tag_of_use u
core_tag (C.Text c) = tag.Other

-- how long what is not a row may be, where it is a string
abbrev pub core_text : Core → Option Count
core_text (C.Used u c) = c
core_text (C.Text c) = Some c

-- the same of a type with the lengths of an array
abbrev pub form_tag : Form → List Count → Tag
form_tag f ns = if is_row f.rows ns then tag.Other else core_tag f.core

abbrev pub form_text : Form → List Count → Option Count
form_text f ns = if is_row f.rows ns then None else core_text f.core
