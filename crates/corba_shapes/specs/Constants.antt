-- Constants.
use Rattle.std.specs.Prelude.{Bool, true, false, not, nat_le, ◌&&◌, ◌==◌, ℕ, ℤ, List, Option, Some, None, Ok}
use Rattle.std.specs.Option.{is_none}
use Rattle.mint.specs.declared.kind.Kind.TheVariants as kind
use Rattle.mint.specs.declared.kind.Count.{Count}
use Rattle.mint.specs.declared.kind.Count.TheVariants.{Exactly, AtMost, Any}
use Rattle.aoi.specs.declared.faults.NameFault.TheVariants.{NotType, Range}
use Rattle.idl_names.specs.Answers.{Answer, and_then, refused}
use Rattle.idl_names.specs.Uses.{is_other}
use Rattle.idl_names.specs.Labels.{is_of}
use Rattle.corba_decls.specs.declared.decl_tree.ConstantType.{ConstantType}
use Rattle.corba_decls.specs.declared.decl_tree.ConstantType.TheVariants as C
use Rattle.corba_decls.specs.declared.decl_tree.Constant.{Constant as ConstantTree}
use Rattle.corba_scopes.specs.declared.meanings.Constant.{Constant}
use Rattle.corba_scopes.specs.declared.meanings.Constant.TheVariants as V
use Rattle.corba_scopes.specs.Names.{Names, clash, refused_by, declared_on}
use Rattle.corba_scopes.specs.Consts.{constant, meaning_of_constant}
use Rattle.corba_shapes.specs.declared.forms.Core.{Core}
use Rattle.corba_shapes.specs.declared.forms.Core.TheVariants as K
use Rattle.corba_shapes.specs.State.{State}
use Rattle.corba_shapes.specs.Forms.{kind_of, number_core, named_core, core_tag, core_text}

-- the type of a constant
abbrev pub constant_core : Names → ℕ → ConstantType → Answer Core
constant_core s d (C.Int i) = Ok (number_core (kind_of i))
constant_core s d C.Char = Ok (number_core kind.Char)
constant_core s d C.Boolean = Ok (number_core kind.Bool)
constant_core s d C.Octet = Ok (number_core kind.Octet)
constant_core s d C.Text = Ok (K.Text Any)
constant_core s d (C.Named n) = named_core s d n

-- a type that no constant has: it is not a number, an enum or a string
abbrev pub is_no_constant : Core → Bool
is_no_constant c = is_other (core_tag c) && is_none (core_text c)

-- so many characters are a string of this length
abbrev pub has_length : Count → ℕ → Bool
has_length (Exactly m) n = n == m
has_length (AtMost m) n = nat_le n m
has_length Any n = true

-- the same of a length, if there is one
abbrev pub is_text : Option Count → ℕ → Bool
is_text None n = false
is_text (Some c) n = has_length c n

-- a value is one of a type
abbrev pub fits : List (ℕ × ℤ) → Core → Constant → Bool
fits labels c (V.Number n) = is_of labels (core_tag c) n
fits labels c (V.Text n) = is_text (core_text c) n

-- a name with the value of an expression; it is tested where it is, and declared after its value
abbrev pub constant_on : ℕ → State → ConstantTree → Answer State
constant_on d s c =
    and_then (constant_core s.names d c.of) (λ t.
    and_then (refused NotType d (is_no_constant t)) (λ _.
    and_then (refused_by d (clash s.names c.name.name)) (λ _.
    and_then (constant s.names d c.value) (λ v.
    and_then (refused Range d (not (fits s.labels t v))) (λ _.
    and_then (declared_on d s.names c.name.name (meaning_of_constant v)) (λ names.
    Ok (record s { names = names })))))))
