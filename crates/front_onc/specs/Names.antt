-- What names stand for.
use Rattle.std.specs.Prelude.{Bool, true, false, nat_lt, ◌^◌, ℕ, ℤ, pos, negsuc, neg_ℤ, List, [], ◌∷◌, codes, Option, Some, None, Ok, if◌then◌else◌}
use Rattle.mint.specs.declared.kind.Kind.{Kind}
use Rattle.mint.specs.declared.kind.Kind.TheVariants as kind
use Rattle.aoi.specs.declared.faults.NameFault.TheVariants.{Unknown, NotType, NotConst, Range, OutOfScope}
use Rattle.onc_syntax.specs.declared.tree.Value.{Value}
use Rattle.onc_syntax.specs.declared.tree.Value.TheVariants as V
use Rattle.onc_syntax.specs.declared.tree.IntWord.{IntWord}
use Rattle.onc_syntax.specs.declared.tree.IntWord.TheVariants.{Int, Long, Short, Char, Hyper}
use Rattle.onc_syntax.specs.declared.tree.TypeName.{TypeName}
use Rattle.onc_syntax.specs.declared.tree.TypeName.TheVariants as T
use Rattle.idl_names.specs.declared.uses.Use.{Use}
use Rattle.idl_names.specs.declared.uses.Use.TheVariants.{Number}
use Rattle.front_onc.specs.declared.meaning.Meaning.{Meaning}
use Rattle.front_onc.specs.declared.meaning.Meaning.TheVariants as M
use Rattle.idl_names.specs.Answers.{Answer, fault}
use Rattle.idl_names.specs.Names.{meaning_of}

-- names in the order of their declarations, each with what it stands for
abbrev pub Scope : Type 0
Scope = List (List ℕ × Meaning)

-- the names that are known before any declaration
abbrev pub known : Scope
known =
    (codes "TRUE", M.Constant (pos 1))
    ∷ (codes "FALSE", M.Constant (pos 0))
    ∷ (codes "u_char", M.Type (Number kind.U8))
    ∷ (codes "u_short", M.Type (Number kind.U16))
    ∷ (codes "u_int", M.Type (Number kind.U32))
    ∷ (codes "u_long", M.Type (Number kind.U32))
    ∷ (codes "float", M.LeftOut)
    ∷ (codes "double", M.LeftOut)
    ∷ (codes "quadruple", M.LeftOut)
    ∷ []

-- ---- values

-- a number that 128 signed bits hold
abbrev pub is_held : ℤ → Bool
is_held (pos n) = nat_lt n (2 ^ 127)
is_held (negsuc n) = nat_lt n (2 ^ 127)

-- a number after its minus, if it has one
abbrev pub signed : ℕ → Bool → ℤ → Answer ℤ
signed d true n = if is_held (neg_ℤ n) then Ok (neg_ℤ n) else fault Range d
signed d false n = Ok n

-- the number that a name stands for
abbrev pub constant : ℕ → Option Meaning → Answer ℤ
constant d None = fault Unknown d
constant d (Some (M.Constant n)) = Ok n
constant d (Some _) = fault NotConst d

-- the number of a value
abbrev pub value : Scope → ℕ → Value → Answer ℤ
value scope d (V.Number minus n) = signed d minus n
value scope d (V.Name name) = constant d (meaning_of name scope)

-- ---- types by their names

-- int and long have 32 bits, short 16, char 8 and hyper 64
abbrev pub kind_of : Bool → IntWord → Kind
kind_of true Int = kind.U32
kind_of true Long = kind.U32
kind_of true Short = kind.U16
kind_of true Char = kind.U8
kind_of true Hyper = kind.U64
kind_of false Int = kind.I32
kind_of false Long = kind.I32
kind_of false Short = kind.I16
kind_of false Char = kind.I8
kind_of false Hyper = kind.I64

-- the type that a name stands for
abbrev pub use_of : ℕ → Option Meaning → Answer Use
use_of d None = fault Unknown d
use_of d (Some (M.Type u)) = Ok u
use_of d (Some M.LeftOut) = fault OutOfScope d
use_of d (Some _) = fault NotType d

-- the type of a type name
abbrev pub type_use : Scope → ℕ → TypeName → Answer Use
type_use scope d (T.Int unsigned word) = Ok (Number (kind_of unsigned word))
type_use scope d T.Unsigned = Ok (Number kind.U32)
type_use scope d T.Bool = Ok (Number kind.Bool)
type_use scope d (T.Named prefix name) = use_of d (meaning_of name scope)
