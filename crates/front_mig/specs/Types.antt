-- The types that names stand for, and those that `type` statements make.
use Rattle.std.specs.Prelude.{not, ℕ, pos, List, [], ◌∷◌, ◌++◌, codes, Option, Some, None, Ok}
use Rattle.std.specs.Ordering.{int_eq}
use Rattle.mint.specs.declared.kind.Kind.{Kind}
use Rattle.mint.specs.declared.kind.Kind.TheVariants as kind
use Rattle.mint.specs.declared.kind.Count.TheVariants.{Exactly, AtMost}
use Rattle.aoi.specs.declared.faults.NameFault.TheVariants.{Unknown, Range, OutOfScope}
use Rattle.idl_exprs.specs.Trees.{Tree}
use Rattle.mig_syntax.specs.declared.tree.TypeForm.{TypeForm}
use Rattle.mig_syntax.specs.declared.tree.TypeForm.TheVariants as T
use Rattle.idl_names.specs.declared.uses.Tag.{Tag}
use Rattle.idl_names.specs.declared.uses.Tag.TheVariants as tag
use Rattle.idl_names.specs.declared.uses.Use.{Use}
use Rattle.idl_names.specs.declared.uses.Use.TheVariants.{Number}
use Rattle.front_mig.specs.declared.meaning.Meaning.{Meaning}
use Rattle.front_mig.specs.declared.meaning.Meaning.TheVariants as M
use Rattle.front_mig.specs.declared.meaning.Form.{Form}
use Rattle.front_mig.specs.declared.meaning.Form.TheVariants as F
use Rattle.idl_names.specs.Answers.{Answer, fault, and_then, refused}
use Rattle.idl_names.specs.Names.{meaning_of}
use Rattle.idl_names.specs.Uses.{tag_of_use}
use Rattle.front_mig.specs.Numbers.{value, length_of}

-- names in the order of their declarations, each with the type that it stands for
abbrev pub Scope : Type 0
Scope = List (List ℕ × Meaning)

-- the types that are known before any declaration
abbrev pub known : Scope
known =
    (codes "char", M.Data (Number kind.Char))
    ∷ (codes "byte", M.Data (Number kind.Octet))
    ∷ (codes "short", M.Data (Number kind.I16))
    ∷ (codes "int", M.Data (Number kind.I32))
    ∷ (codes "unsigned", M.Data (Number kind.U32))
    ∷ (codes "mach_port_t", M.Port)
    ∷ (codes "MACH_MSG_TYPE_CHAR", M.Data (Number kind.Char))
    ∷ (codes "MACH_MSG_TYPE_BYTE", M.Data (Number kind.Octet))
    ∷ (codes "MACH_MSG_TYPE_INTEGER_16", M.Data (Number kind.I16))
    ∷ (codes "MACH_MSG_TYPE_INTEGER_32", M.Data (Number kind.I32))
    ∷ (codes "MACH_MSG_TYPE_COPY_SEND", M.Port)
    ∷ []

-- what is found, or Unknown
abbrev pub found : ℕ → Option Meaning → Answer Meaning
found d None = fault Unknown d
found d (Some m) = Ok m

-- the type of a name; one that the file declares goes before a known one
abbrev pub type_of : Scope → ℕ → List ℕ → Answer Meaning
type_of scope d name = found d (meaning_of name (scope ++ known))

-- the size of a number in bits
abbrev pub size_of : Kind → ℕ
size_of kind.Octet = 8
size_of kind.I8 = 8
size_of kind.U8 = 8
size_of kind.Char = 8
size_of kind.I16 = 16
size_of kind.U16 = 16
size_of _ = 32

-- the kind of a number, which a row is not
abbrev pub kind_in : ℕ → Tag → Answer Kind
kind_in d (tag.Number k) = Ok k
kind_in d _ = fault OutOfScope d

-- the size in bits of a port or a number
abbrev pub size_in : ℕ → Meaning → Answer ℕ
size_in d M.Port = Ok 32
size_in d (M.Data u) = and_then (kind_in d (tag_of_use u)) (λ k. Ok (size_of k))

-- what is in message bodies, as ports are not
abbrev pub data_in : ℕ → Meaning → Answer Use
data_in d M.Port = fault OutOfScope d
data_in d (M.Data u) = Ok u

-- numbers, as an array's elements are
abbrev pub numbers_in : ℕ → Meaning → Answer Use
numbers_in d m = and_then (data_in d m) (λ u. and_then (kind_in d (tag_of_use u)) (λ k. Ok u))

-- a type with its own size
abbrev pub sized : Scope → ℕ → List ℕ → Tree → Answer Meaning
sized scope d name e =
    and_then (type_of scope d name) (λ m.
    and_then (size_in d m) (λ bits.
    and_then (value d e) (λ n.
    and_then (refused Range d (not (int_eq n (pos bits)))) (λ _.
    Ok m))))

-- what is made of a type without a row
abbrev pub plainly : Meaning → Form
plainly M.Port = F.Port
plainly (M.Data u) = F.Data u

-- how many elements of which type
abbrev pub row : Scope → ℕ → Tree → List ℕ → Answer (ℕ × Use)
row scope d e name =
    and_then (length_of d e) (λ n.
    and_then (type_of scope d name) (λ m.
    and_then (numbers_in d m) (λ u.
    Ok (n, u))))

-- what a `type` statement makes
abbrev pub form : Scope → ℕ → TypeForm → Answer Form
form scope d (T.Named name) = and_then (type_of scope d name) (λ m. Ok (plainly m))
form scope d (T.Sized name e) = and_then (sized scope d name e) (λ m. Ok (plainly m))
form scope d (T.Array e name) = and_then (row scope d e name) (λ r. Ok (F.Row r.1 (Exactly r.0)))
form scope d (T.VariableArray e name) = and_then (row scope d e name) (λ r. Ok (F.Row r.1 (AtMost r.0)))
form scope d (T.Struct e name) = and_then (row scope d e name) (λ r. Ok (F.Row r.1 (Exactly r.0)))
